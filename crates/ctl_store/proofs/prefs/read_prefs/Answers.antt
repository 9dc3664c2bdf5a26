use Rattle.ctl_store.proofs.prefs.read_prefs.Goals as goal

pub returns-in-Ok-clause-first : goal.returns-in-Ok-clause-first
returns-in-Ok-clause-first c = c.first_setting_counts.ensures c.args.first_line c.args.text.now c.read_settings.new.kept.pins c.in-Ok.ensures.ok

pub returns-in-Ok-clause-no_fault : goal.returns-in-Ok-clause-no_fault
returns-in-Ok-clause-no_fault c = (c.told_prefs_fault_is_least.ensures c.args.first_line c.args.text.now).read c.read_settings.new.kept.pins c.in-Ok.ensures.ok

pub returns-in-Err-clause-least : goal.returns-in-Err-clause-least
returns-in-Err-clause-least c = λ other. (c.told_prefs_fault_is_least.ensures c.args.first_line c.args.text.now).told c.in-Err.fault (c.in-Err.ensures.err other)
