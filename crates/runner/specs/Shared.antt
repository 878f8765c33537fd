-- A runtime that threads share, this project's own: docs/SEMANTICS.md, "Threads".
use Rattle.std.specs.Prelude.{◌≡◌, ℕ, Bool, true, false, List, Option}
use Rattle.std.specs.List.{list_any}
use Rattle.std.specs.Str.{bytes_eq}
use Rattle.bpf_code.specs.declared.insn.Insn.{Insn}
use Rattle.cri_msgs.specs.declared.calls.Request.{Request}
use Rattle.cri_msgs.specs.declared.replies.Reply.{Reply}
use Rattle.creation.specs.declared.files.FileAnswers.{FileAnswers}
use Rattle.registry.specs.declared.registry.Registry.{Registry}
use Rattle.registry.specs.declared.stage.Stage.{Stage}
use Rattle.registry.specs.declared.stage.Stage.TheVariants.{Live, Removed, Unknown}
use Rattle.registry.specs.Stands.{stages_in}
use Rattle.runtime_history.specs.declared.event.Event.TheVariants.{Served}
use Rattle.runtime_history.specs.declared.event.Seen.{Seen}
use Rattle.runtime_history.specs.History.{Grows}

-- whether there is a sandbox
abbrev pub is_live : Stage → Bool
is_live Unknown = false
is_live (Live ready) = true
is_live Removed = false

-- whether the uid is among these
abbrev pub has : List (List ℕ) → List ℕ → Bool
has uids uid = list_any (bytes_eq uid) uids

-- the kept uids are those of the existing sandboxes
abbrev pub AreListed : Registry → List (List ℕ) → Type 0
AreListed registry uids = (uid : List ℕ) → is_live (stages_in registry uid) ≡ has uids uid

-- What a connection has seen of the history of a node with this filter grows by others' events, and then by
-- this request, the results of its files, and its answer. All that it has seen is a run.
pub record MayServe (baseline : Option (List Insn)) (old : Seen) (request : Request) (files : FileAnswers)
    (reply : Reply) (new : Seen) : Type 0 where
  pub number : reply.id ≡ request.id
  pub grows : Grows baseline old (Served request.call files reply.answer) new
