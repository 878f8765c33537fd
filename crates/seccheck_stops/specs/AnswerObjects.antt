-- What is printed as an object of JSON (RFC 8259) where the program ends before its work is done, this
-- project's own: docs/SEMANTICS.md, "Programs". No text of these but a value has a byte that JSON would escape.
use Rattle.std.specs.Prelude.{◌≡◌, ℕ, List, [], ◌++◌, codes, Option, Some, None, IfSome}
use Rattle.std.specs.Fmt.{decimal}
use Rattle.bpf_code.specs.Text.{text_of}
use Rattle.bpf_code.specs.declared.insn.Insn.{Insn}
use Rattle.bpf_verify.specs.declared.refusal.Refusal.{Refusal}
use Rattle.seccheck_output.specs.Compared.{reason_of}
use Rattle.seccheck_output.specs.Objects.{difference_object}
use Rattle.fault_notes.specs.Members.{AreMembers}
use Rattle.fault_notes.specs.declared.named.Named.TheVariants as named
use Rattle.seccheck_stops.specs.NoteText.{IsAt, refusal_spot}
use Rattle.seccheck_stops.specs.Refused.{fault_of, kind_of}
use Rattle.seccheck_stops.specs.declared.notes.Spot.{Spot}
use Rattle.seccheck_stops.specs.declared.notes.Spot.TheVariants.{Whole, At}
use Rattle.seccheck_stops.specs.declared.refused.Refused.{Refused}
use Rattle.seccheck_stops.specs.declared.refused.Refused.TheVariants as refused
use Rattle.seccheck_stops.specs.declared.refused.RefusedFile.{RefusedFile}
use Rattle.seccheck_stops.specs.declared.stop.Stop.{Stop}
use Rattle.seccheck_stops.specs.declared.stop.Stop.TheVariants as why

-- the object with these members about a refused file; nothing of what is no answer
abbrev pub answer_object : Stop → List ℕ → List ℕ
answer_object (why.Refused file) members =
    codes "{\"answer\":\"refused\",\"of\":\"" ++ (kind_of file.refused ++ (codes "\",\"fault\":\""
    ++ (fault_of file.refused ++ (codes "\"" ++ (members ++ codes "}\n")))))
answer_object (why.Differ difference) members = difference_object difference
answer_object (why.Undecided doubt) members =
    codes "{\"answer\":\"undecided\",\"reason\":\"" ++ (reason_of doubt ++ codes "\"}\n")
answer_object stop members = []

abbrev pub spot_member : Spot → List ℕ
spot_member Whole = []
spot_member (At place) = codes ",\"place\":" ++ decimal place

abbrev pub insn_member : Option Insn → List ℕ
insn_member None = []
insn_member (Some insn) = codes ",\"value\":\"" ++ (text_of insn ++ codes "\"")

-- the place in a filter, of an instruction from 0, and the instruction there
abbrev pub AreFilterMembers : List ℕ → Refusal → List ℕ → Type 0
AreFilterMembers bytes refusal members = (insn : Option Insn) × IfSome insn (IsAt bytes (refusal_spot refusal))
    × (members ≡ spot_member (refusal_spot refusal) ++ insn_member insn)

abbrev pub AreOn : List ℕ → Refused → List ℕ → Type 0
AreOn bytes (refused.Filter refusal) members = AreFilterMembers bytes refusal members
AreOn bytes (refused.StackFilter refusal) members = AreFilterMembers bytes refusal members
AreOn bytes (refused.Stack told) members = members ≡ []
AreOn bytes (refused.Profile found) members = AreMembers bytes (named.Profile found.fault) found.place members
AreOn bytes (refused.Compile told) members = members ≡ []
AreOn bytes (refused.Template found) members = AreMembers bytes (named.Template found.fault) found.place members
AreOn bytes (refused.Manifest found) members = AreMembers bytes (named.Manifest found.fault) found.place members
AreOn bytes (refused.Script found) members = AreMembers bytes (named.Script found.fault) found.place members

-- the place of a refused file's fault, and the value there
abbrev pub AreMembersOf : RefusedFile → List ℕ → Type 0
AreMembersOf file members = AreOn file.bytes.items file.refused members

-- the object of an answer
abbrev pub IsObjectOf : Stop → List ℕ → Type 0
IsObjectOf (why.Refused file) line = (members : List ℕ) × AreMembersOf file members
    × (line ≡ answer_object (why.Refused file) members)
IsObjectOf stop line = line ≡ answer_object stop []
