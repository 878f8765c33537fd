-- Two calls in a row move the bytes of both.
use Rattle.std.proofs.Common.{◌≡◌, ℕ, ◌+◌, ◌≤◌, List, ◌++◌, Option, length, take, drop, sym, ap, ◌∙◌, subst}
use Rattle.std.proofs.Math.Seq.{take-add, take-append-add}
use Rattle.std.proofs.lemmas.List.{length-take-le, take-append-le}
use Rattle.std.proofs.KnownBytes.{Appends-trans, Consumes-trans}
use Rattle.std.specs.Io.KnownBytes.{Appends, Consumes}
use borrow.Rule.Slice.PartMut.{put_mid, post_of}

-- a write of the front of what is left
pub written_more : (old mid new : Option (List ℕ)) (bytes left : List ℕ) (count more : ℕ)
    → left ≡ drop count bytes → Appends old mid (take count bytes) → Appends mid new (take more left)
    → Appends old new (take (count + more) bytes)
written_more old mid new bytes left count more is first second =
    subst (Appends old new) (sym (take-add count more bytes
    ∙ ap (λ rest. take count bytes ++ take more rest) (sym is)))
    (Appends-trans old mid new _ _ first second)

-- the bytes before a part that was written, and the front of that part
front_of_part : (buf part : List ℕ) (count room more : ℕ) → count ≤ length buf → more ≤ length part
    → take (count + more) (put_mid count room buf part) ≡ take count buf ++ take more part
front_of_part buf part count room more within fits =
    let here : length (take count buf) ≡ count = length-take-le count buf within in
    let rest : List ℕ = part ++ post_of count room buf in
    ap (λ n. take (n + more) (take count buf ++ rest)) (sym here) ∙ take-append-add (take count buf) rest more
    ∙ ap (λ back. take count buf ++ back) (take-append-le more part (post_of count room buf) fits)

-- a read into what is left of the room
pub read_more : (old mid new : Option (List ℕ)) (buf part : List ℕ) (count room more : ℕ) → count ≤ length buf
    → more ≤ length part → Consumes old mid (take count buf) → Consumes mid new (take more part)
    → Consumes old new (take (count + more) (put_mid count room buf part))
read_more old mid new buf part count room more within fits first second =
    subst (Consumes old new) (sym (front_of_part buf part count room more within fits))
    (Consumes-trans old mid new _ _ first second)
