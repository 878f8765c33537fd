use Rattle.std.proofs.Common.{ap, sym, ◌∙◌, option_and_then}
use Rattle.serde_json.specs.View.{view}
use Rattle.script.specs.Reading.{numbers_of}
use Rattle.script.proofs.Rows.{row_is}
use Rattle.script.proofs.install.row_of.Goals as goal

pub returns-in-Some : goal.returns-in-Some
returns-in-Some c = c.four.ensures ∙ ap (option_and_then numbers_of) c.in-Some.ensures
    ∙ sym (row_is (view c.args.item.now))

pub returns-in-None : goal.returns-in-None
returns-in-None c = ap (option_and_then numbers_of) c.in-None.ensures ∙ sym (row_is (view c.args.item.now))
