-- What shows that a text is a template where a profile is wanted. Templates of Docker, podman and containerd have
-- conditions at `includes` and `excludes`, and architectures at `archMap`. The texts are this project's own:
-- docs/SEMANTICS.md, "Templates".
use Rattle.std.specs.Prelude.{ℕ, ◌==◌, Bool, false, true, not, ◌||◌, if◌then◌else◌, List, [], ◌++◌, length, codes}
use Rattle.std.specs.Prelude.{count_by, Option, Some, None, option_and_then, unwrap_or}
use Rattle.std.specs.Fmt.{decimal}
use Rattle.serde_json.specs.Data as json
use Rattle.serde_json.specs.Data.{Data, Members}
use Rattle.json_tree.specs.Tree.{list, member, tree_of}
use Rattle.profile_template.specs.declared.signs.TemplateSign.{TemplateSign}
use Rattle.profile_template.specs.declared.signs.TemplateSign.TheVariants.{ArchMap, Conditions}

abbrev pub are_some : Members → Bool
are_some json.no_members = false
are_some (json.member key value ms) = true

-- an object that is not empty
abbrev pub has_members : Data → Bool
has_members json.null = false
has_members (json.boolean b) = false
has_members (json.number n) = false
has_members (json.string s) = false
has_members (json.array ds) = false
has_members (json.object ms) = are_some ms

abbrev pub is_given : Option Data → Bool
is_given None = false
is_given (Some tree) = has_members tree

-- whether an entry has a condition
unfoldable pub is_conditional : Data → Bool
is_conditional item = is_given (member (codes "includes") item) || is_given (member (codes "excludes") item)

-- the items of the list at this member
unfoldable pub items_at : List ℕ → Data → List Data
items_at key tree = unwrap_or (option_and_then list (member key tree)) []

abbrev pub sign_of : ℕ → ℕ → Option TemplateSign
sign_of conditions families = if not (conditions == 0) then Some (Conditions conditions)
    else if not (families == 0) then Some ArchMap else None

unfoldable pub sign_in : Data → Option TemplateSign
sign_in tree = sign_of (count_by is_conditional (items_at (codes "syscalls") tree))
    (length (items_at (codes "archMap") tree))

-- what shows that the text is a template, if it is one
unfoldable pub sign_in_text : List ℕ → Option TemplateSign
sign_in_text bytes = option_and_then sign_in (tree_of bytes)

abbrev pub conditions_text : ℕ → List ℕ
conditions_text count = if count == 1 then codes "condition is" else decimal count ++ codes " conditions are"

unfoldable pub sign_text : TemplateSign → List ℕ
sign_text (Conditions count) =
    codes "a template: its " ++ (conditions_text count ++ codes " ignored, see seccheck resolve")
sign_text ArchMap = codes "a template: its archMap is ignored, see seccheck resolve"
