use Rattle.std.proofs.Common.{◌≡◌, Err, subst}
use Rattle.std.specs.Prelude.{◌≢◌}
use Rattle.serde_json.specs.View.{view}
use Rattle.json_tree.specs.Reading.{document}
use Rattle.json_tree.specs.declared.faults.TextFault.{TextFault}
use Rattle.json_tree.specs.declared.faults.TextFault.TheVariants.{Memory}
use Rattle.fault_notes.specs.Members.{ArePlaced}
use Rattle.fault_notes.proofs.Noted.{in_tree, in_none}
use Rattle.fault_notes.proofs.members.placed_members.Goals as goal

pub returns-in-Ok : goal.returns-in-Ok
returns-in-Ok c = in_tree c.members_at.result c.args.bytes.now c.args.place.now c.shown_at.result
    (view c.in-Ok.tree) (ArePlaced c.args.place.now) c.in-Ok.ensures c.shown_at.ensures c.members_at.ensures

pub returns-in-Err-NotJson : goal.returns-in-Err-NotJson
returns-in-Err-NotJson c =
    let read = subst (λ (e : TextFault). e ≢ Memory → document c.args.bytes.now ≡ Err e)
    c.in-Err-NotJson.field-0-is c.in-Err-NotJson.ensures in
    in_none c.members_at-in-Err-NotJson.result c.args.bytes.now c.args.place.now
    (ArePlaced c.args.place.now) read c.members_at-in-Err-NotJson.ensures
