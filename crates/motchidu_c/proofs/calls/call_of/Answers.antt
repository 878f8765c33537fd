use Rattle.std.proofs.Common.{arith, ◌≡◌, ◌-◌, take, drop, length, length-drop}
use Rattle.std.proofs.lemmas.List.{take_all}
use Rattle.motchidu_c.proofs.Bytes.{bytes_of_call-read}
use Rattle.motchidu_c.proofs.calls.call_of.Goals as goal

pub returns : goal.returns
returns c =
    let whole : take (length c.args.bytes.now - 16) (drop 16 c.args.bytes.now) ≡ drop 16 c.args.bytes.now =
    take_all _ _ (omega (arith, length-drop 16 c.args.bytes.now)) in
    bytes_of_call-read c.args.bytes.now _ c.requires (λ i. omega (arith, c.type_inv.bytes i))
    (omega arith) c.read_u32.ensures c.read_u32-2.ensures c.read_u64.ensures
    (rw whole at c.read_u64_into.ensures)
