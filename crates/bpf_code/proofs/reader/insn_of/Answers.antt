use Rattle.std.proofs.Common.{◌≡◌, ◌∙◌, ℕ, arith, Option, Some, None, IfSome, List, get_or, take, drop}
use Rattle.std.proofs.Common.{length, ◌-◌}
use Rattle.std.proofs.lemmas.List.{take_all}
use Rattle.std.proofs.Common.{length-drop}
use Rattle.byteorder.specs.Endian.{little_number}
use Rattle.bpf_code.specs.Code.{bytes_of_insn, Spells}
use Rattle.bpf_code.specs.declared.insn.Insn.{Insn}
use Rattle.bpf_code.proofs.Bytes.{AreBytes, bytes_of_insn-made}
use Rattle.bpf_code.proofs.reader.insn_of.Goals as goal

spelled : (o : Option Insn) (bytes : List ℕ) (code k : ℕ) → length bytes ≡ 8 → AreBytes bytes
    → code ≡ little_number 2 (take 2 bytes) → k ≡ little_number 4 (drop 4 bytes)
    → IfSome o (λ insn. Spells insn code (get_or bytes 2 0) (get_or bytes 3 0) k)
    → IfSome o (λ insn. bytes ≡ bytes_of_insn insn)
spelled None bytes code k long fit code_is k_is parts = tt
spelled (Some insn) bytes code k long fit code_is k_is parts =
    bytes_of_insn-made insn bytes long fit (parts.0 ∙ code_is, parts.1, parts.2, parts.3 ∙ k_is)

pub returns-clause-made : goal.returns-clause-made
returns-clause-made c =
    let whole : take (length c.args.bytes.now - 4) (drop 4 c.args.bytes.now) ≡ drop 4 c.args.bytes.now =
    take_all _ _ (omega (arith, length-drop 4 c.args.bytes.now)) in
    spelled c.new.result c.args.bytes.now c.read_u16-code.result c.read_u32-k.result c.requires
    (λ i. omega (arith, c.type_inv.bytes i)) c.read_u16-code.ensures
    (rw whole at c.read_u32-k.ensures) c.new.ensures.made
