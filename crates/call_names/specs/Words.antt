-- A call in the words of a command line, and as members of a JSON object (RFC 8259): this project's own,
-- docs/SEMANTICS.md, "Programs".
use Rattle.std.specs.Prelude.{ℕ, suc, ◌==◌, nat_lt, ◌&&◌, if◌then◌else◌, Bool, false, List, [], ◌∷◌, ◌++◌, codes}
use Rattle.std.specs.Prelude.{slice_index}
use Rattle.std.specs.Fmt.{decimal, digits}
use Rattle.call_data.specs.declared.sys_call.SysCall.{SysCall}
use Rattle.call_data.specs.declared.sys_call.TheConstants.{NATIVE_ARCH}
use Rattle.call_names.specs.declared.naming.Naming.{Naming}
use Rattle.call_names.specs.declared.naming.Naming.TheVariants as naming
use Rattle.call_names.specs.Text.{call_text}
use Rattle.sys_table.specs.declared.calls.CallTable.{CallTable}

-- names are those of x86-64's calls
abbrev pub naming_of : CallTable → ℕ → Naming
naming_of known arch = if arch == NATIVE_ARCH then naming.Name known else naming.Number

unfoldable pub number_text : CallTable → SysCall → List ℕ
number_text known call = call_text (naming_of known call.arch) call.nr

-- the architecture and the address, if they are not those that `run` assumes
unfoldable pub arch_text : ℕ → List ℕ
arch_text arch = if arch == NATIVE_ARCH then [] else codes " --arch 0x" ++ digits 16 false arch

unfoldable pub ip_text : ℕ → List ℕ
ip_text ip = if ip == 0 then [] else codes " --ip 0x" ++ digits 16 false ip

-- an argument, or a number that is compared with one
unfoldable pub argument_text : ℕ → List ℕ
argument_text number = if nat_lt number 10 then decimal number else codes "0x" ++ digits 16 false number

-- how many arguments there are up to the last one that is not 0: `run` takes all others to be 0
abbrev pub given : List ℕ → ℕ
given [] = 0
given (arg ∷ later) = if (arg == 0) && (given later == 0) then 0 else suc (given later)

unfoldable pub argument_word : Bool → ℕ → List ℕ
argument_word is_given arg = if is_given then codes " " ++ argument_text arg else []

-- the argument at this place, if it is given
abbrev pub word_at : List ℕ → ℕ → List ℕ
word_at args at = argument_word (nat_lt at (given args)) (slice_index args at)

-- the call, in the words in which `run` takes it
abbrev pub words_text : CallTable → SysCall → List ℕ
words_text known call =
    number_text known call ++ (word_at call.args 0 ++ (word_at call.args 1 ++ (word_at call.args 2
    ++ (word_at call.args 3 ++ (word_at call.args 4 ++ (word_at call.args 5
    ++ (arch_text call.arch ++ ip_text call.ip)))))))

abbrev pub number_at : List ℕ → ℕ → List ℕ
number_at args at = decimal (slice_index args at)

-- the call, as members of an object
abbrev pub call_members : SysCall → List ℕ
call_members call =
    codes "\"call\":" ++ (decimal call.nr ++ (codes ",\"args\":[" ++ (number_at call.args 0
    ++ (codes "," ++ (number_at call.args 1 ++ (codes "," ++ (number_at call.args 2
    ++ (codes "," ++ (number_at call.args 3 ++ (codes "," ++ (number_at call.args 4
    ++ (codes "," ++ (number_at call.args 5 ++ (codes "],\"arch\":" ++ (decimal call.arch
    ++ (codes ",\"ip\":" ++ decimal call.ip))))))))))))))))
