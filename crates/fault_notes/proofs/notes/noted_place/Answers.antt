use Rattle.std.proofs.Common.{◌≡◌, Err, subst}
use Rattle.std.specs.Prelude.{◌≢◌}
use Rattle.serde_json.specs.View.{view}
use Rattle.json_tree.specs.Reading.{document}
use Rattle.json_tree.specs.declared.faults.TextFault.{TextFault}
use Rattle.json_tree.specs.declared.faults.TextFault.TheVariants.{Memory}
use Rattle.fault_notes.specs.Notes.{Says}
use Rattle.fault_notes.proofs.Noted.{in_tree, in_none}
use Rattle.fault_notes.proofs.notes.noted_place.Goals as goal

pub returns-in-Ok : goal.returns-in-Ok
returns-in-Ok c = in_tree c.place_line.result c.args.bytes.now c.args.place.now c.shown_at.result
    (view c.in-Ok.tree) (Says c.args.place.now c.args.fault) c.in-Ok.ensures c.shown_at.ensures
    c.place_line.ensures

pub returns-in-Err-NotJson : goal.returns-in-Err-NotJson
returns-in-Err-NotJson c =
    let read = subst (λ (e : TextFault). e ≢ Memory → document c.args.bytes.now ≡ Err e)
    c.in-Err-NotJson.field-0-is c.in-Err-NotJson.ensures in
    in_none c.place_line-in-Err-NotJson.result c.args.bytes.now c.args.place.now
    (Says c.args.place.now c.args.fault) read c.place_line-in-Err-NotJson.ensures
