use Rattle.std.proofs.Common.{ap, arith, length}
use Rattle.std.proofs.Common.{Err}
use Rattle.bpf_code.proofs.Bytes.{length-bytes_of_code}
use Rattle.bpf_code.proofs.Faults.{HasFault-unique, no_fault}
use Rattle.bpf_code.proofs.reader.read.Goals as goal

pub returns-in-Some-clause-refused : goal.returns-in-Some-clause-refused
returns-in-Some-clause-refused c = λ fault has.
    ap Err (HasFault-unique c.args.bytes.now _ fault (
      c.if-bytes-ne0.false,
      c.if-bytes-gt-MAX_BYTES.false,
      c.in-Some.ensures.first,
    ) has)

pub returns-in_err-decode-in-None-clause-refused : goal.returns-in_err-decode-in-None-clause-refused
returns-in_err-decode-in-None-clause-refused c =
    λ fault has. absurd (no_fault c.args.bytes.now fault c.if-bytes-ne0.false c.if-bytes-gt-MAX_BYTES.false
    c.in-None.ensures.none has)

pub returns-in_ok-decode-in-None-clause-short : goal.returns-in_ok-decode-in-None-clause-short
returns-in_ok-decode-in-None-clause-short c =
    omega (
      arith,
      length-bytes_of_code c.in_ok-decode-in-None.field-0.items,
      ap length c.in_ok-decode-in-None.ensures.text,
    )

pub returns-in_ok-decode-in-None-clause-refused : goal.returns-in_ok-decode-in-None-clause-refused
returns-in_ok-decode-in-None-clause-refused c =
    λ fault has. absurd (no_fault c.args.bytes.now fault c.if-bytes-ne0.false c.if-bytes-gt-MAX_BYTES.false
    c.in-None.ensures.none has)
