-- Which numbers a value may be. Only private functions cite this.
use Rattle.std.specs.Prelude.{◌≡◌, ℕ, bit_and}
use Rattle.call_data.specs.declared.sys_call.SysCall.{SysCall}
use Rattle.bpf_compare.specs.declared.value.Value.{Value}
use Rattle.bpf_compare.specs.declared.value.Value.TheVariants.{Constant, Data, Unknown}
use Rattle.bpf_compare.specs.Known.{number_at}

-- the number is one that the value may be on this call
abbrev pub Denotes : SysCall → Value → ℕ → Type 0
Denotes call (Constant k) n = n ≡ k
Denotes call (Data word mask) n = n ≡ bit_and (number_at call word.place) mask
Denotes call Unknown n = Unit {0}
