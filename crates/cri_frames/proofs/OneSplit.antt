-- A stream has one list of frames and one rest.
use Rattle.std.proofs.Common.{◌≡◌, ℕ, ◌/◌, ◌%◌, List, [], ◌∷◌, ◌++◌, length, take, drop, refl, sym, ap, ◌∙◌}
use Rattle.std.proofs.Common.{subst, arith, append_assoc}
use Rattle.std.proofs.lemmas.List.{take_at, drop_at}
use Rattle.std.specs.List.{AllByRecursion, flat_map}
use Rattle.cri_msgs.specs.declared.version.Version.{Version}
use Rattle.cri_msgs.specs.declared.version.Version.TheVariants.{V1, V2}
use Rattle.cri_frames.specs.Frames.{BeginsNone, IsBad, IsLength, first_byte, frame_of}
use Rattle.cri_frames.specs.Streams.{Frame, HasBadRest, IsFrame, bytes_of, stream_of}

same_version : (version version' : Version) → first_byte version ≡ first_byte version' → version ≡ version'
same_version V1 V1 same = refl
same_version V1 V2 same = absurd (omega arith)
same_version V2 V1 same = absurd (omega arith)
same_version V2 V2 same = refl

same_length : (n m : ℕ) → IsLength n → IsLength m → n / 65536 % 256 ≡ m / 65536 % 256
    → n / 256 % 256 ≡ m / 256 % 256 → n % 256 ≡ m % 256 → n ≡ m
same_length n m fit fit' high middle low = omega arith

-- a frame is determined by the bytes that begin with it
pub same_frame : (version version' : Version) (text text' more more' : List ℕ) → IsLength (length text)
    → IsLength (length text') → frame_of version text ++ more ≡ frame_of version' text' ++ more'
    → (version ≡ version') × (text ≡ text') × (more ≡ more')
same_frame version version' text text' more more' fit fit' same =
    let first : first_byte version ≡ first_byte version' = cc in
    let high : length text / 65536 % 256 ≡ length text' / 65536 % 256 = cc in
    let middle : length text / 256 % 256 ≡ length text' / 256 % 256 = cc in
    let low : length text % 256 ≡ length text' % 256 = cc in
    let count : length text ≡ length text' =
    same_length (length text) (length text') fit fit' high middle low in
    let behind : text ++ more ≡ text' ++ more' = cc in (
      same_version version version' first,
      sym (take_at text more (length text) refl) ∙ ap (take (length text)) behind
          ∙ take_at text' more' (length text) (sym count),
      sym (drop_at text more (length text) refl) ∙ ap (drop (length text)) behind
          ∙ drop_at text' more' (length text) (sym count),
    )

-- the bytes after the first frame
front : (frame : Frame) (frames : List Frame) (rest : List ℕ)
    → stream_of (frame ∷ frames) rest ≡ frame_of frame.0 frame.1 ++ stream_of frames rest
front frame frames rest = append_assoc (bytes_of frame) (flat_map bytes_of frames) rest

cons_same : (frame frame' : Frame) (frames frames' : List Frame) → frame.0 ≡ frame'.0 → frame.1 ≡ frame'.1
    → frames ≡ frames' → frame ∷ frames ≡ frame' ∷ frames'
cons_same (version, text) (version', text') frames frames' same_version same_text same = cc

pub one_split : (frames frames' : List Frame) (rest rest' : List ℕ)
    → stream_of frames rest ≡ stream_of frames' rest' → AllByRecursion IsFrame frames
    → AllByRecursion IsFrame frames' → BeginsNone rest → BeginsNone rest' → (frames ≡ frames')
    × (rest ≡ rest')
one_split [] [] rest rest' same each each' none none' = (refl, same)
one_split [] (frame ∷ frames') rest rest' same each each' none none' =
    absurd (none.none frame.0 frame.1 (stream_of frames' rest') each'.0 (same ∙ front frame frames' rest'))
one_split (frame ∷ frames) [] rest rest' same each each' none none' =
    absurd (none'.none frame.0 frame.1 (stream_of frames rest) each.0 (sym same ∙ front frame frames rest))
one_split (frame ∷ frames) (frame' ∷ frames') rest rest' same each each' none none' =
    let one = same_frame frame.0 frame'.0 frame.1 frame'.1 (stream_of frames rest)
    (stream_of frames' rest') each.0 each'.0 (sym (front frame frames rest) ∙ same
    ∙ front frame' frames' rest') in
    let others = one_split frames frames' rest rest' one.2 each.1 each'.1 none none' in
    (cons_same frame frame' frames frames' one.0 one.1 others.0, others.1)

-- the rest of a stream is bad or not, by any of its splits
pub bad_rest : (frames : List Frame) (rest : List ℕ) → AllByRecursion IsFrame frames → BeginsNone rest
    → HasBadRest (stream_of frames rest) → IsBad rest
bad_rest frames rest each none bad =
    subst IsBad (one_split bad.frames frames bad.rest rest (sym bad.splits.whole) bad.splits.each each
    bad.splits.begins_none none).1 bad.bad

pub has_bad_rest : (frames : List Frame) (rest : List ℕ) → AllByRecursion IsFrame frames → BeginsNone rest
    → IsBad rest → HasBadRest (stream_of frames rest)
has_bad_rest frames rest each none bad = record {
  frames = frames;
  rest = rest;
  splits = record { whole = refl; each = each; begins_none = none };
  bad = bad;
}
