-- Talks that follow one another are one talk.
use Rattle.std.proofs.Common.{◌≡◌, ℕ, ◌≤◌, List, [], ◌∷◌, ◌++◌, Option, length, map, refl, sym, ap, ◌∙◌}
use Rattle.std.proofs.Common.{subst, arith, append_assoc, append-nil}
use Rattle.std.proofs.KnownBytes.{Appends-nil, Appends-trans}
use Rattle.std.specs.Io.KnownBytes.{Appends}
use Rattle.std.specs.List.{AllByRecursion, flat_map}
use Rattle.cri_frames.specs.Frames.{BeginsNone, IsBad}
use Rattle.cri_frames.specs.Streams.{Frame, HasBadRest, IsFrame, bytes_of, stream_of}
use Rattle.runner.specs.Connection.{Exchange, Follow, Talk, reply_frame}

abbrev frames_of : List Exchange → List Frame
frames_of es = map (λ (e : Exchange). e.frame) es

-- the frames of both, one after the other
frames_then : (es fs : List Exchange) (left : List ℕ)
    → stream_of (frames_of (es ++ fs)) left ≡ stream_of (frames_of es) (stream_of (frames_of fs) left)
frames_then [] fs left = refl
frames_then (e ∷ es) fs left =
    append_assoc (bytes_of e.frame) (flat_map bytes_of (frames_of (es ++ fs))) left
    ∙ ap (λ bytes. bytes_of e.frame ++ bytes) (frames_then es fs left)
    ∙ sym (append_assoc (bytes_of e.frame) (flat_map bytes_of (frames_of es)) (stream_of (frames_of fs) left))

each_then : (P : Exchange → Type 0) (es fs : List Exchange) → AllByRecursion P es → AllByRecursion P fs
    → AllByRecursion P (es ++ fs)
each_then P [] fs one two = two
each_then P (e ∷ es) fs one two = (one.0, each_then P es fs one.1 two)

replies_then : (es fs : List Exchange) → flat_map reply_frame (es ++ fs) ≡ flat_map reply_frame es
    ++ flat_map reply_frame fs
replies_then [] fs = refl
replies_then (e ∷ es) fs = ap (λ bytes. reply_frame e ++ bytes) (replies_then es fs)
    ∙ sym (append_assoc (reply_frame e) (flat_map reply_frame es) (flat_map reply_frame fs))

module _ {X : Type 0} (One : X → Exchange → X → Type 0) where
  follow_then : (es fs : List Exchange) (old mid new : X) → Follow One old es mid → Follow One mid fs new
      → Follow One old (es ++ fs) new
  follow_then [] fs old mid new one two = subst (λ x. Follow One x fs new) one two
  follow_then (e ∷ es) fs old mid new one two = (one.0, one.1, follow_then es fs one.0 mid new one.2 two)

  -- nothing came, and nothing was answered
  pub no_talk : (x : X) (came : List ℕ) (output : Option (List ℕ)) → Talk One x x came came [] output output
  no_talk x came output = record {
    exchanges = [];
    each = tt;
    frames = refl;
    follow = refl;
    written = [];
    replies = refl;
    sent = Appends-nil output;
  }

  pub no_talk_in : (x : X) (came : List ℕ) (output : Option (List ℕ)) → came ≡ []
      → Talk One x x [] came [] output output
  no_talk_in x came output none = subst (λ (bytes : List ℕ). Talk One x x bytes came [] output output) none
      (no_talk x came output)

  pub no_talk_since : (old new : X) (came : List ℕ) (output : Option (List ℕ)) → new ≡ old
      → Talk One old new came came [] output output
  no_talk_since old new came output same =
      subst (λ x. Talk One old x came came [] output output) (sym same) (no_talk old came output)

  -- one frame, with a prefix of its reply written
  pub one_talk : (old new : X) (e : Exchange) (written unwritten : List ℕ) (output output' : Option (List ℕ))
      → IsFrame e.frame → One old e new
      → reply_frame e ≡ written ++ unwritten → Appends output output' written
      → Talk One old new (bytes_of e.frame) [] unwritten output output'
  one_talk old new e written unwritten output output' whole answered is sent = record {
    exchanges = e ∷ [];
    each = (whole, tt);
    frames = sym (append-nil (bytes_of e.frame ++ []) ∙ append-nil (bytes_of e.frame));
    follow = (new, answered, refl);
    written = written;
    replies = append-nil (reply_frame e) ∙ is;
    sent = sent;
  }

  pub talk_then : (old mid new : X) (came left behind unwritten : List ℕ)
      (output output' output'' : Option (List ℕ))
      → Talk One old mid came left [] output output' → Talk One mid new left behind unwritten output' output''
      → Talk One old new came behind unwritten output output''
  talk_then old mid new came left behind unwritten output output' output'' one two = record {
    exchanges = one.exchanges ++ two.exchanges;
    each = each_then _ one.exchanges two.exchanges one.each two.each;
    frames = one.frames ∙ ap (stream_of (frames_of one.exchanges)) two.frames
        ∙ sym (frames_then one.exchanges two.exchanges behind);
    follow = follow_then one.exchanges two.exchanges old mid new one.follow two.follow;
    written = one.written ++ two.written;
    replies = replies_then one.exchanges two.exchanges
        ∙ ap (λ bytes. bytes ++ flat_map reply_frame two.exchanges) (one.replies ∙ append-nil one.written)
        ∙ ap (λ bytes. one.written ++ bytes) two.replies
        ∙ sym (append_assoc one.written two.written unwritten);
    sent = Appends-trans output output' output'' one.written two.written one.sent two.sent;
  }

  -- more came after what was left
  pub talk_more : (old new : X) (came left more unwritten : List ℕ) (output output' : Option (List ℕ))
      → Talk One old new came left unwritten output output'
      → Talk One old new (came ++ more) (left ++ more) unwritten output output'
  talk_more old new came left more unwritten output output' talk = record {
    exchanges = talk.exchanges;
    each = talk.each;
    frames = ap (λ bytes. bytes ++ more) talk.frames
        ∙ append_assoc (flat_map bytes_of (frames_of talk.exchanges)) left more;
    follow = talk.follow;
    written = talk.written;
    replies = talk.replies;
    sent = talk.sent;
  }

  -- the first frame of what was left was answered too
  pub talk_next : (old mid new : X) (came stands frame rest left unwritten : List ℕ)
      (output output' output'' : Option (List ℕ)) → stands ≡ frame ++ rest
      → Talk One old mid came stands [] output output'
      → Talk One mid new frame left unwritten output' output''
      → Talk One old new came (left ++ rest) unwritten output output''
  talk_next old mid new came stands frame rest left unwritten output output' output'' is one two =
      talk_then old mid new came stands (left ++ rest) unwritten output output' output'' one
      (subst (λ (bytes : List ℕ). Talk One mid new bytes (left ++ rest) unwritten output' output'') (sym is)
      (talk_more mid new frame left rest unwritten output' output'' two))

-- bytes that begin no whole frame have a bad rest if they are bad
module _ (left : List ℕ) (none : BeginsNone left) where
  bad_in : (frames : List Frame) (rest : List ℕ) → left ≡ stream_of frames rest
      → AllByRecursion IsFrame frames → IsBad rest → IsBad left
  bad_in [] rest whole each bad = subst IsBad (sym whole) bad
  bad_in (frame ∷ frames) rest whole each bad =
      absurd (none.none frame.0 frame.1 (stream_of frames rest) each.0
      (whole ∙ append_assoc (bytes_of frame) (flat_map bytes_of frames) rest))

  pub bad_left : HasBadRest left → IsBad left
  bad_left bad = bad_in bad.frames bad.rest bad.splits.whole bad.splits.each bad.bad

  pub has_bad_left : IsBad left → HasBadRest left
  has_bad_left bad = record {
    frames = [];
    rest = left;
    splits =
        record { whole = refl; each = tt; begins_none = none };
    bad = bad;
  }

-- the empty list begins no frame, and has no bad rest
pub nothing_begins_none : BeginsNone []
nothing_begins_none = record { none = λ version text more fits is. absurd (omega (arith, ap length is)) }

pub nothing_is_good : HasBadRest [] → ⊥
nothing_is_good bad = let there : 4 ≤ 0 = (bad_left [] nothing_begins_none bad).there in omega arith
