use Rattle.bpf_code.specs.declared.operation.Operation.TheVariants.{LoadImmediate}
use Rattle.bpf_code.proofs.Bytes.{fits_further, written_more}
use Rattle.bpf_code.proofs.writer.write.Goals as goal

pub loop-insn-preserved : goal.loop-insn-preserved
loop-insn-preserved c = record {
  text =
      written_more c.args.insns.now c.loop-insn.insn-index
      (record { op = LoadImmediate; jt = 0; jf = 0; k = 0 }) c.loop-insn.bytes.items c.to_bytes.result _
      c.loop-insn-test.true c.loop-insn.invariant.text c.to_bytes.ensures
      c.in_ok-extend_from_slice.ensures.items;
  fits = fits_further c.args.insns.now c.loop-insn.insn-index _ c.loop-insn-test.true
      c.loop-insn.invariant.fits c.numbers_fit.ensures;
}
