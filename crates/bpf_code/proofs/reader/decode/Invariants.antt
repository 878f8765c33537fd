use Rattle.std.proofs.Common.{◌≡◌, ◌*◌, take}
use Rattle.std.specs.List.{AllByRecursion}
use Rattle.bpf_code.specs.Code.{bytes_of_code, Fits}
use Rattle.bpf_code.proofs.reader.decode.Given as goal

abbrev pub invariant-loop-at : goal.invariant-loop-at
invariant-loop-at l = record {
  text : take (8 * l.at) l.bytes ≡ bytes_of_code l.code.items;
  fits : AllByRecursion Fits l.code.items;
}
