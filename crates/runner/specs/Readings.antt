-- The result of reading a text, this project's own: docs/SEMANTICS.md, "Serving a connection".
use Rattle.std.specs.Prelude.{◌≡◌, ◌≢◌, ℕ, List, Result, Ok, IfOk, IfErr}
use Rattle.json_tree.specs.Reading.{Gives}
use Rattle.cri_msgs.specs.declared.calls.Request.{Request}
use Rattle.cri_msgs.specs.declared.faults.MessageFault.{MessageFault}
use Rattle.cri_msgs.specs.declared.faults.MessageFault.TheVariants.{Memory, NoMessage}
use Rattle.cri_msgs.specs.declared.version.Version.{Version}
use Rattle.cri_msgs.specs.Reading.{request_reading}
use Rattle.cri_msgs.specs.Requests.{ReadsRequest, number_of}

-- the result of reading the text of a frame of this version
pub record IsReading (version : Version) (text : List ℕ) (result : Result Request MessageFault) : Type 0 where
  -- what is read is the text's request
  pub found : IfOk result (λ request. ReadsRequest version text request)
  -- a request is read, unless memory runs out
  pub only : (request : Request) → ReadsRequest version text request
      → Gives Memory (λ (r : Request). r) result (Ok request)
  -- any other text is reported with its number
  pub refused : IfErr result (λ fault. fault ≢ Memory → fault ≡ NoMessage (number_of text))

-- the fault of a text that is no request: its number
abbrev pub IsOther : Version → List ℕ → MessageFault → Type 0
IsOther version text fault = (fault ≡ NoMessage (number_of text))
    × ((request : Request) → request_reading version text ≡ Ok request → ⊥)
