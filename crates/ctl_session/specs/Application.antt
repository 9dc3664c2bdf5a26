-- The words that the program takes, as clap's rules.
use Rattle.std.specs.Prelude.{◌≡◌, ℕ, List, Option, Some, String, true, codes, string_bytes}
use Rattle.std.specs.Option.{option_map}
use Rattle.std.specs.declared.alloc.Global.{Global}
use Rattle.clap.specs.Matches.{first_value, found_of}
use Rattle.clap.specs.declared.parser.matches.ArgMatches.{ArgMatches}
use Rattle.clap.specs.Simple.{App, new_app, on_top, new_rule, with_rule}
use Rattle.clap.specs.Walk.{Rule}
use Rattle.clap.specs.declared.builder.action.ArgAction.TheVariants.{Set, Append}

-- `-l NAME=FILE`, any number of times; 108 is the letter `l`
abbrev pub list_rule : Rule
list_rule = record (new_rule (codes "LIST")) { short = Some 108; action = Some Append; value_names = 1 }

-- `--status FILE`
abbrev pub status_rule : Rule
status_rule = record (new_rule (codes "FILE")) { long = Some (codes "status"); action = Some Set; value_names = 1 }

-- one word, the file of the script
abbrev pub script_rule : Rule
script_rule = record (new_rule (codes "SCRIPT")) { action = Some Set; value_names = 1 }

-- the program, which has a version
abbrev pub program : App
program = on_top (λ shape. record shape { has_version = true }) (new_app (codes "dctrl-cache"))

abbrev pub application : App
application = with_rule (with_rule (with_rule program list_rule) status_rule) script_rule

-- a text is the first value of this argument in matches, or there is neither
abbrev pub IsFirstValue : ArgMatches → List ℕ → Option (String Global) → Type 0
IsFirstValue matches argument text = option_map string_bytes text ≡ first_value (found_of matches) argument
