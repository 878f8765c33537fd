use Rattle.std.proofs.Common.{◌∙◌, sym, arith, Option, Some, None, IfNone, IsSome, refl}
use Rattle.bpf_code.proofs.Bytes.{code_at-slice, text_more, fits_more}
use Rattle.bpf_code.proofs.reader.decode.Goals as goal

is_there : {A : Type 0} {P : Type 0} (o : Option A) → IfNone o P → (P → ⊥) → IsSome o
is_there (Some a) none not = refl
is_there None none not = absurd (not none)

pub unwrap-insn-requires : goal.unwrap-insn-requires
unwrap-insn-requires c =
    let known = c.requires.known c.loop-at.at (omega arith) in
    is_there c.insn_of.result c.insn_of.ensures.unknown (λ unknown.
    unknown known.0 (known.1 ∙ sym (code_at-slice c.args.bytes.now c.loop-at.at)))

pub loop-at-preserved : goal.loop-at-preserved
loop-at-preserved c =
    let made = rw c.unwrap-insn.ensures at c.insn_of.ensures.made in
    let fits = rw c.unwrap-insn.ensures at c.insn_of.ensures.fits in
    record {
      text = rw c.in_ok-push.ensures.items (text_more c.args.bytes.now c.loop-at.at c.loop-at.code.items
          c.unwrap-insn.result c.loop-at.invariant.text made);
      fits = rw c.in_ok-push.ensures.items (fits_more c.loop-at.code.items c.unwrap-insn.result
          c.loop-at.invariant.fits fits);
    }
