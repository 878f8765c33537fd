-- A worker's receipts, and one more.
use Rattle.std.proofs.Common.{◌≡◌, ℕ, ◌<◌, List, [], ◌∷◌, ◌++◌, Option, Result, refl}
use Rattle.cri_frames.specs.declared.faults.Lost.{Lost}
use Rattle.cri_msgs.specs.declared.calls.Request.{Request}
use Rattle.cri_msgs.specs.declared.replies.Reply.{Reply}
use Rattle.node_lock.specs.Receipts.{Received}
use Rattle.worker_crew.specs.Work.{IsWorkFrom, MayFollow, claim_after, claim_in, number_after}

pub work_push : (may : Request → Result Reply Lost → Type 0) (worker : ℕ) (before : Option Request) (low : ℕ)
    (rs : List Received) (r : Received)
    → IsWorkFrom may worker before low rs → number_after low rs < r.number → r.entry.worker ≡ worker
    → MayFollow may (claim_after before rs) r.entry.event
    → IsWorkFrom may worker before low (rs ++ r ∷ [])
work_push may worker before low [] r work above its follows = (above, its, follows, tt)
work_push may worker before low (x ∷ rs) r work above its follows = (
  work.0,
  work.1,
  work.2,
  work_push may worker (claim_in x.entry.event x.entry.answer) x.number rs r work.3
      above its follows,
)

pub number_push : (low : ℕ) (rs : List Received) (r : Received) → number_after low (rs ++ r ∷ []) ≡ r.number
number_push low [] r = refl
number_push low (x ∷ rs) r = number_push x.number rs r

pub claim_push : (before : Option Request) (rs : List Received) (r : Received)
    → claim_after before (rs ++ r ∷ []) ≡ claim_in r.entry.event r.entry.answer
claim_push before [] r = refl
claim_push before (x ∷ rs) r = claim_push (claim_in x.entry.event x.entry.answer) rs r
