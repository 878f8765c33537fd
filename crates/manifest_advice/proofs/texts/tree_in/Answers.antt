use Rattle.std.proofs.Common.{◌≡◌, Err, subst}
use Rattle.std.specs.Prelude.{◌≢◌}
use Rattle.serde_json.specs.View.{view}
use Rattle.json_tree.specs.Reading.{document}
use Rattle.json_tree.specs.declared.faults.TextFault.{TextFault}
use Rattle.json_tree.specs.declared.faults.TextFault.TheVariants.{Memory}
use Rattle.manifest_advice.proofs.TreesRead.{tree_read, no_tree_read}
use Rattle.manifest_advice.proofs.texts.tree_in.Goals as goal

pub returns-in-Ok : goal.returns-in-Ok
returns-in-Ok c = tree_read c.args.bytes.now (view c.in-Ok.tree) c.in-Ok.ensures

pub returns-in-Err-NotJson : goal.returns-in-Err-NotJson
returns-in-Err-NotJson c = no_tree_read c.args.bytes.now
    (subst (λ (e : TextFault). e ≢ Memory → document c.args.bytes.now ≡ Err e)
    c.in-Err-NotJson.field-0-is c.in-Err-NotJson.ensures)
