-- A connection so far, read by read.
use Rattle.std.proofs.Common.{◌≡◌, ℕ, List, [], ◌++◌, Option, sym, refl, subst}
use Rattle.std.proofs.KnownBytes.{Appends-kept, Consumes-kept, Consumes-trans}
use Rattle.std.specs.Io.KnownBytes.{Consumes, Keeps}
use Rattle.cri_frames.specs.Frames.{BeginsNone}
use Rattle.runner.specs.Connection.{Exchange, PartTalk, Talk, WholeTalk}
use Rattle.runner.specs.Steps.{CutsTalk}
use Rattle.runner.proofs.Talks.{talk_more, talk_then}

module _ {X : Type 0} (One : X → Exchange → X → Type 0) (old : X) (input output : Option (List ℕ)) where
  -- all that was read was answered, except what is in the feed
  abbrev pub SoFar : X → List ℕ → Option (List ℕ) → Option (List ℕ) → Type 0
  SoFar new feed input' output' = (came : List ℕ) × Consumes input input' came
      × Talk One old new came feed [] output output'

  kept_talk : (new : X) (came left unwritten : List ℕ) (output' output'' : Option (List ℕ))
      → Talk One old new came left unwritten output output' → Keeps output' output''
      → Talk One old new came left unwritten output output''
  kept_talk new came left unwritten output' output'' talk keeps = record {
    exchanges = talk.exchanges;
    each = talk.each;
    frames = talk.frames;
    follow = talk.follow;
    written = talk.written;
    replies = talk.replies;
    sent = Appends-kept output output' output'' talk.written talk.sent keeps;
  }

  -- more was read
  pub reads_more : (new : X) (feed more feed' : List ℕ) (input' input'' output' output'' : Option (List ℕ))
      → SoFar new feed input' output' → feed' ≡ feed ++ more
      → Consumes input' input'' more → Keeps output' output'' → SoFar new feed' input'' output''
  reads_more new feed more feed' input' input'' output' output'' so is taken keeps = (
    so.0 ++ more,
    Consumes-trans input input' input'' so.0 more so.1 taken,
    subst (λ (left : List ℕ). Talk One old new (so.0 ++ more) left [] output output'') (sym is)
        (kept_talk new _ _ [] output' output'' (talk_more One old new so.0 feed more [] output output' so.2)
        keeps),
  )

  -- the contents of the feed were answered
  pub answers_more : (mid new : X) (feed left : List ℕ) (input' input'' output' output'' : Option (List ℕ))
      → SoFar mid feed input' output'
      → Talk One mid new feed left [] output' output'' → Keeps input' input''
      → SoFar new left input'' output''
  answers_more mid new feed left input' input'' output' output'' so talk keeps = (
    so.0,
    Consumes-kept input input' input'' so.0 so.1 keeps,
    talk_then One old mid new so.0 feed left [] output output' output'' so.2 talk,
  )

  pub whole : (new : X) (feed : List ℕ) (input' output' : Option (List ℕ)) (Leaves : List ℕ → Type 0)
      → SoFar new feed input' output' → BeginsNone feed → Leaves feed
      → WholeTalk One old new input input' output output' Leaves
  whole new feed input' output' Leaves so none leaves =
      record { came = so.0; left = feed; taken = so.1; begins_none = none; leaves = leaves; talk = so.2 }

  -- it is cut off if there is no memory for what was read
  pub cut_reading : (new : X) (feed : List ℕ) (input' input'' output' output'' : Option (List ℕ))
      → SoFar new feed input' output' → (more : List ℕ) × Consumes input' input'' more
      → Keeps output' output'' → PartTalk One old new input input'' output output''
  cut_reading new feed input' input'' output' output'' so read keeps =
      let later = reads_more new feed read.0 (feed ++ read.0) input' input'' output' output'' so refl read.1
      keeps in
      record { came = later.0; left = feed ++ read.0; unwritten = []; taken = later.1; talk = later.2 }

  -- it is cut off while the contents of the feed were answered
  pub cut_answering : (mid new : X) (feed : List ℕ) (input' input'' output' output'' : Option (List ℕ))
      → SoFar mid feed input' output'
      → CutsTalk One mid new feed output' output'' → Keeps input' input''
      → PartTalk One old new input input'' output output''
  cut_answering mid new feed input' input'' output' output'' so cut keeps = record {
    came = so.0;
    left = cut.left;
    unwritten = cut.unwritten;
    taken = Consumes-kept input input' input'' so.0 so.1 keeps;
    talk = talk_then One old mid new so.0 feed cut.left cut.unwritten output output' output'' so.2 cut.talk;
  }
