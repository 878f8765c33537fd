-- Templates that are resolved for C: the settings that three numbers encode, and the answers about a template
-- under them, profile_template, Reading. Capabilities are those of linux/capability.h; kernel versions begin
-- as those of uname(2) do.
use Rattle.std.specs.Prelude.{◌≡◌, ℕ, ◌/◌, ◌%◌, ◌^◌, ◌==◌, List, codes, filter_map, map, if◌then◌else◌}
use Rattle.std.specs.Prelude.{Option, Some, None, Ok, Err}
use Rattle.std.specs.List.{enumerate_from}
use Rattle.oci_profile.specs.Profile.{ReadsProfileWith}
use Rattle.sys_table.specs.declared.calls.CallTable.{CallTable}
use Rattle.profile_template.specs.Reading.{reading_of}
use Rattle.profile_template.specs.Resolved.{profile_of}
use Rattle.profile_template.specs.declared.placed.TemplateFaultAt.{TemplateFaultAt}
use Rattle.profile_template.specs.declared.settings.Settings.{Settings}
use Rattle.profile_template.specs.declared.template.Template.{Template}
use Rattle.motchidu_c.specs.declared.status.Status.{Status}
use Rattle.motchidu_c.specs.declared.status.Status.TheVariants.{TooLarge}
use Rattle.motchidu_c.specs.Status.{number_of, status_of_template}
use Rattle.motchidu_c.specs.declared.capabilities.TheConstants.{CAP_NAMES}

-- the names of the capabilities, each at its number
unfoldable pub cap_names : List (List ℕ)
cap_names = map (λ name. name.now) CAP_NAMES

-- the name of a capability, if the mask has the bit
abbrev pub named_if : ℕ → ℕ × List ℕ → Option (List ℕ)
named_if mask (bit, name) = if mask / 2 ^ bit % 2 == 1 then Some name else None

-- the names of the capabilities whose bits the mask has
abbrev pub caps_in : ℕ → List (List ℕ)
caps_in mask = filter_map (named_if mask) (enumerate_from 0 cap_names)

-- the settings: these capabilities, x86-64, and this kernel
pub record AreSettings (settings : Settings) (caps major minor : ℕ) : Type 0 where
  pub caps_are : map (λ cap. cap.now) settings.caps.now ≡ caps_in caps
  pub arch_is : settings.arch.now ≡ codes "amd64"
  pub kernel_is : settings.kernel ≡ Some (record { major = major; minor = minor })

-- the bytes are a template under these settings, and the text reads as its plain profile if these are the
-- known calls
pub record ReadsTemplate (known : CallTable) (settings : Settings) (bytes text : List ℕ) : Type 0 where
  pub template : Template
  pub reads : reading_of settings bytes ≡ Ok template
  pub written : ReadsProfileWith known text (profile_of known template)

-- the answer for bytes that are not resolved under these settings: the first fault, or, for a template, that
-- its plain profile has too many bytes
pub data IsUnresolved (settings : Settings) (bytes : List ℕ) (status : Status) : Type 0 where
  is_fault : (found : TemplateFaultAt) → reading_of settings bytes ≡ Err found
      → status ≡ status_of_template found.fault → IsUnresolved settings bytes status
  is_long : (template : Template) → reading_of settings bytes ≡ Ok template
      → status ≡ TooLarge → IsUnresolved settings bytes status

-- the text is the plain profile under the settings that these numbers encode
pub record IsResolved (known : CallTable) (bytes text : List ℕ) (caps major minor : ℕ) : Type 0 where
  pub settings : Settings
  pub are_settings : AreSettings settings caps major minor
  pub reads : ReadsTemplate known settings bytes text

-- under these settings there is none, and this status is why
pub record HasNoProfile (bytes : List ℕ) (status : Status) (caps major minor : ℕ) : Type 0 where
  pub settings : Settings
  pub are_settings : AreSettings settings caps major minor
  pub unresolved : IsUnresolved settings bytes status

-- and this is its number
pub record TellsNoProfile (bytes : List ℕ) (answer caps major minor : ℕ) : Type 0 where
  pub status : Status
  pub told : answer ≡ number_of status
  pub none : HasNoProfile bytes status caps major minor
