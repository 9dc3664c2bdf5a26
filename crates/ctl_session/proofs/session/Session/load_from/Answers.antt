use Rattle.std.proofs.Common.{Ok, Err, subst}
use Rattle.ctl_session.specs.Loading.{LoadsText}
use Rattle.ctl_session.specs.State.{SessionState, cache_state}
use Rattle.ctl_session.proofs.LoadingLemmas.{loads_text}
use Rattle.ctl_session.proofs.session.Session.load_from.Goals as goal

pub returns-in-Ok-add_loaded-clause-loaded : goal.returns-in-Ok-add_loaded-clause-loaded
returns-in-Ok-add_loaded-clause-loaded g c =
    let came = loads_text _ _ _ (cache_state c.add_loaded.new.self.cache) c.args.name.now c.args.kind _ (Ok c.in-Ok-add_loaded.field-0) c.in-Ok.ensures.read c.in-Ok-add_loaded.ensures.loaded in
    subst (λ (s : SessionState). LoadsText (g.R.Source.remaining c.args.reader.now) (g.R.Source.remaining c.read_list.new.reader)
    (Ok c.in-Ok-add_loaded.field-0) (cache_state s.cache) (cache_state c.add_loaded.new.self.cache) c.args.name.now c.args.kind) c.self.view_is came

pub returns-in-Err-add_loaded-clause-loaded : goal.returns-in-Err-add_loaded-clause-loaded
returns-in-Err-add_loaded-clause-loaded g c =
    let came = loads_text _ _ _ (cache_state c.add_loaded.new.self.cache) c.args.name.now c.args.kind _ (Err c.in-Err-add_loaded.fault) c.in-Ok.ensures.read c.in-Err-add_loaded.ensures.loaded in
    subst (λ (s : SessionState). LoadsText (g.R.Source.remaining c.args.reader.now) (g.R.Source.remaining c.read_list.new.reader)
    (Err c.in-Err-add_loaded.fault) (cache_state s.cache) (cache_state c.add_loaded.new.self.cache) c.args.name.now c.args.kind) c.self.view_is came
