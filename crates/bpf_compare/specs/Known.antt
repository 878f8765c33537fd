-- What is known of the calls of a set. Only private functions cite this.
use Rattle.std.specs.Prelude.{◌≡◌, ◌≢◌, ◌⊎◌, ℕ, ◌-◌, ◌*◌, ◌^◌, ◌<◌, ◌≤◌, ◌==◌, nat_lt, Bool, true, false}
use Rattle.std.specs.Prelude.{bit_and, slice_index_or}
use Rattle.std.specs.List.{All}
use Rattle.call_data.specs.declared.sys_call.SysCall.{SysCall}
use Rattle.call_data.specs.CallData.{word_at}
use Rattle.bpf_compare.specs.declared.range.Range.{Range}
use Rattle.bpf_compare.specs.declared.question.Test.{Test}
use Rattle.bpf_compare.specs.declared.question.Test.TheVariants.{Equal, Greater}
use Rattle.bpf_compare.specs.declared.question.Question.{Question}
use Rattle.bpf_compare.specs.declared.question.Excluded.{Excluded}
use Rattle.bpf_compare.specs.declared.bounded.Bounded.{Bounded}
use Rattle.bpf_compare.specs.declared.known.Known.{Known}
use Rattle.bpf_compare.specs.declared.known.Split.{Split}
use Rattle.bpf_compare.specs.declared.known.Split.TheVariants.{Holds, Fails, Both}
use Rattle.bpf_compare.specs.declared.known.Left.{Left}
use Rattle.bpf_compare.specs.declared.known.Left.TheVariants as left

-- the word at this place, of the sixteen of the call's data
unfoldable pub number_at : SysCall → ℕ → ℕ
number_at call place = word_at call (4 * place)

-- whether a test holds for this number
abbrev pub answer_of : Test → ℕ → ℕ → Bool
answer_of Equal part against = part == against
answer_of Greater part against = nat_lt against part

-- whether it holds for this number under the mask
abbrev pub answer : Question → ℕ → Bool
answer question n = answer_of question.test (bit_and n question.mask) question.against

-- whether it holds on this call
abbrev pub answer_on : SysCall → Question → Bool
answer_on call question = answer question (number_at call question.word.place)

-- the number is in the bounds, and has the bits
pub record IsIn (range : Range) (n : ℕ) : Type 0 where
  pub low : range.low ≤ n
  pub high : n ≤ range.high
  pub bits : bit_and n range.mask ≡ range.bits

-- the number does not have these bits
abbrev pub Lacks : Excluded → ℕ → Type 0
Lacks it n = bit_and n it.mask ≢ it.bits

-- the call's word does not have these bits
abbrev pub Avoids : SysCall → Excluded → Type 0
Avoids call it = Lacks it (number_at call it.word.place)

-- the number under the mask is within the bounds
pub record IsWithin (it : Bounded) (n : ℕ) : Type 0 where
  pub low : it.low ≤ bit_and n it.mask
  pub high : bit_and n it.mask ≤ it.high

-- the call's word under the mask is within the bounds
abbrev pub Keeps : SysCall → Bounded → Type 0
Keeps call it = IsWithin it (number_at call it.word.place)

-- the call is in the set
pub record IsAmong (known : Known) (call : SysCall) : Type 0 where
  pub ranges : (place : ℕ) (range : Range) → place < 16
      → IsIn (slice_index_or known.ranges place range) (number_at call place)
  pub excluded : All (Avoids call) known.excluded.items
  pub bounded : All (Keeps call) known.bounded.items

-- all bits of each word are known, so that at most one call is in the set
abbrev pub IsSettled : Known → Type 0
IsSettled known = (place : ℕ) (range : Range) → place < 16
    → (slice_index_or known.ranges place range).mask ≡ 2 ^ 32 - 1

-- where a call of a set is after a test that splits the set
abbrev pub FallsIn : Split → SysCall → Question → Known → Type 0
FallsIn Holds call question left = (answer_on call question ≡ true) × IsAmong left call
FallsIn Fails call question left = (answer_on call question ≡ false) × IsAmong left call
FallsIn (Both other) call question left =
    (answer_on call question ≡ true → IsAmong left call)
    × (answer_on call question ≡ false → IsAmong other call)

-- where a call of a set is after a question
abbrev pub IsLeft : Left → SysCall → Known → Type 0
IsLeft left.None call kept = ⊥
IsLeft left.All call kept = IsAmong kept call
IsLeft (left.Both other) call kept = IsAmong kept call ⊎ IsAmong other call
