-- What bytes begin with, and where the frames in them end, which private functions cite.
use Rattle.std.specs.Prelude.{◌≡◌, ℕ, ◌+◌, ◌≤◌, List, length, take}
use Rattle.cri_frames.specs.declared.splitting.Next.{Next}
use Rattle.cri_frames.specs.declared.splitting.Next.TheVariants.{Whole, Part, Bad}
use Rattle.cri_frames.specs.Frames.{BeginsNone, IsBad, IsLength, head_of}

abbrev pub Begins : List ℕ → Next → Type 0
Begins bytes (Whole version count) = IsLength count × (4 + count ≤ length bytes)
    × (take 4 bytes ≡ head_of version count)
Begins bytes Part = BeginsNone bytes × (IsBad bytes → ⊥)
Begins bytes Bad = IsBad bytes
