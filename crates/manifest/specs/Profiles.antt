-- Seccomp profiles while a text is read: this project's own.
use Rattle.std.specs.Prelude.{IsTrue, Option, Some, None}
use Rattle.manifest.specs.declared.profiles.ProfileText.{ProfileText}
use Rattle.manifest.specs.declared.profiles.ProfileText.TheVariants as read
use Rattle.manifest.specs.declared.profiles.SeccompProfile.{SeccompProfile}
use Rattle.manifest.specs.declared.profiles.SeccompProfile.TheVariants.{RuntimeDefault, Localhost, Unconfined}
use Rattle.manifest.specs.Texts.{is_descending}

-- the profile that the text represents
abbrev pub profile_seen : ProfileText → SeccompProfile
profile_seen read.RuntimeDefault = RuntimeDefault
profile_seen (read.Localhost path) = Localhost path.now
profile_seen read.Unconfined = Unconfined

-- its path, if it has one, is descending
abbrev pub HasFitPath : Option ProfileText → Type 0
HasFitPath None = Unit {0}
HasFitPath (Some read.RuntimeDefault) = Unit {0}
HasFitPath (Some (read.Localhost path)) = IsTrue (is_descending path.now)
HasFitPath (Some read.Unconfined) = Unit {0}
