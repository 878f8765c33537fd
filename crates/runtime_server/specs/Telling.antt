-- What a runtime reports beside its messages, this project's own: docs/SEMANTICS.md, "Programs".
use Rattle.std.specs.Prelude.{ℕ, List, [], ◌++◌, Bool, true, false, codes}
use Rattle.cri_msgs.specs.declared.replies.Answer.{Answer}
use Rattle.cri_msgs.specs.declared.replies.Answer.TheVariants.{Refused}
use Rattle.fault_notes.specs.Paths.{shown_path}
use Rattle.fault_notes.specs.Refusals.{refusal_text}
use Rattle.runtime_server.specs.declared.server.ServerConfig.{ServerConfig}
use Rattle.runtime_server.specs.declared.server.Tells.{Tells}
use Rattle.runtime_server.specs.declared.server.Tells.TheVariants.{Nothing, WrongFiles, Each}

-- whether an answer is reported, given whether a bad file caused it
abbrev pub is_told : Tells → Bool → Bool
is_told Nothing wrong = false
is_told WrongFiles wrong = wrong
is_told Each wrong = true

-- which answers scriptd reports, given whether it logs
abbrev pub told_where : Bool → Tells
told_where true = Each
told_where false = Nothing

-- the text after an answer
abbrev pub name_behind : Answer → List ℕ
name_behind (Refused refusal) = codes " refused " ++ refusal_text refusal
name_behind _ = []

-- the first log line of a runtime
abbrev pub listening_text : ServerConfig → List ℕ
listening_text config =
    codes "listens at " ++ (shown_path config.socket.now
    ++ (codes ", scripts in " ++ (shown_path config.scripts.now
    ++ (codes ", profiles in " ++ shown_path config.profiles.now))))
