use Rattle.std.proofs.Common.{◌∙◌, ap, false}
use Rattle.regex.specs.Views.{builder_config, builder_source}
use Rattle.regex.specs.Patterns.{Config}
use Rattle.regex.specs.declared.builder.RegexBuilder.{RegexBuilder}
use Rattle.ctl_filter.proofs.RxLemmas.{well_formed-built, well_formed-too_big, malformed-bytes, malformed-refused}
use Rattle.ctl_filter.proofs.expression.Expression.new.Goals as goal

pub returns-in_default-clause-fault : goal.returns-in_default-clause-fault
returns-in_default-clause-fault c =
    malformed-bytes _ _ c.in_default.ensures.cases.0

pub returns-in-Ok-build_bytes-clause-well_formed : goal.returns-in-Ok-build_bytes-clause-well_formed
returns-in-Ok-build_bytes-clause-well_formed c =
    let config = ap (λ (x : RegexBuilder). record (builder_config x) { utf8 = false }) (c.size_limit-builder.ensures)
    ∙ (ap (λ (x : RegexBuilder). record (builder_config x) { utf8 = false }) c.case_insensitive.ensures
    ∙ ap (λ (g : Config). record g { flags = record g.flags { case_insensitive = c.args.ignores_case }; utf8 = false }) c.new.ensures.config) in
    let source = ap (λ (x : RegexBuilder). builder_source x) (c.size_limit-builder.ensures)
    ∙ (ap (λ (x : RegexBuilder). builder_source x) c.case_insensitive.ensures ∙ (c.new.ensures.source ∙ c.in-Ok.ensures.cases.0)) in
    well_formed-built _ c.in-Ok-build_bytes.regex _ (c.in-Ok-build_bytes.ensures.config ∙ config) (c.in-Ok-build_bytes.ensures.source ∙ source)
    c.in-Ok.ensures.cases.1 c.in-Ok-build_bytes.ensures.read

pub returns-in-Err-Syntax-clause-fault : goal.returns-in-Err-Syntax-clause-fault
returns-in-Err-Syntax-clause-fault c =
    let config = ap (λ (x : RegexBuilder). record (builder_config x) { utf8 = false }) (c.size_limit-builder.ensures)
    ∙ (ap (λ (x : RegexBuilder). record (builder_config x) { utf8 = false }) c.case_insensitive.ensures
    ∙ ap (λ (g : Config). record g { flags = record g.flags { case_insensitive = c.args.ignores_case }; utf8 = false }) c.new.ensures.config) in
    let source = ap (λ (x : RegexBuilder). builder_source x) (c.size_limit-builder.ensures)
    ∙ (ap (λ (x : RegexBuilder). builder_source x) c.case_insensitive.ensures ∙ (c.new.ensures.source ∙ c.in-Ok.ensures.cases.0)) in
    let refused = c.in-Err-Syntax.ensures.refused c.in-Err-Syntax.field-0-0 c.in-Err-Syntax.field-0-is in
    let kind = rw c.in-Err-Syntax.field-0-is at c.in-Err-Syntax.ensures.kind in
    malformed-refused _ _ _ _ _ config source refused kind

pub returns-in-Err-CompiledTooBig-clause-fault : goal.returns-in-Err-CompiledTooBig-clause-fault
returns-in-Err-CompiledTooBig-clause-fault c =
    let config = ap (λ (x : RegexBuilder). record (builder_config x) { utf8 = false }) (c.size_limit-builder.ensures)
    ∙ (ap (λ (x : RegexBuilder). record (builder_config x) { utf8 = false }) c.case_insensitive.ensures
    ∙ ap (λ (g : Config). record g { flags = record g.flags { case_insensitive = c.args.ignores_case }; utf8 = false }) c.new.ensures.config) in
    let source = ap (λ (x : RegexBuilder). builder_source x) (c.size_limit-builder.ensures)
    ∙ (ap (λ (x : RegexBuilder). builder_source x) c.case_insensitive.ensures ∙ (c.new.ensures.source ∙ c.in-Ok.ensures.cases.0)) in
    let kind = rw c.in-Err-CompiledTooBig.field-0-is at c.in-Err-CompiledTooBig.ensures.kind in
    well_formed-too_big _ _ _ _ config source c.in-Ok.ensures.cases.1 kind

pub returns-in-Err-Internal-clause-fault : goal.returns-in-Err-Internal-clause-fault
returns-in-Err-Internal-clause-fault c =
    let config = ap (λ (x : RegexBuilder). record (builder_config x) { utf8 = false }) (c.size_limit-builder.ensures)
    ∙ (ap (λ (x : RegexBuilder). record (builder_config x) { utf8 = false }) c.case_insensitive.ensures
    ∙ ap (λ (g : Config). record g { flags = record g.flags { case_insensitive = c.args.ignores_case }; utf8 = false }) c.new.ensures.config) in
    let source = ap (λ (x : RegexBuilder). builder_source x) (c.size_limit-builder.ensures)
    ∙ (ap (λ (x : RegexBuilder). builder_source x) c.case_insensitive.ensures ∙ (c.new.ensures.source ∙ c.in-Ok.ensures.cases.0)) in
    let kind = rw c.in-Err-Internal.field-0-is at c.in-Err-Internal.ensures.kind in
    well_formed-too_big _ _ _ _ config source c.in-Ok.ensures.cases.1 kind
