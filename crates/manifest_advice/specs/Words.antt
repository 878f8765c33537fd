-- What is printed of advice on a manifest: this project's own, docs/SEMANTICS.md, "Manifests".
use Rattle.std.specs.Prelude.{ℕ, List, [], ◌++◌, codes, map, Option, Some, None}
use Rattle.std.specs.Fmt.{decimal}
use Rattle.serde_json.specs.Data.{Data}
use Rattle.json_place.specs.Quoted.{quoted_text}
use Rattle.json_tree.specs.Tree.{tree_of}
use Rattle.manifest_advice.specs.Advice.{AdviceData, advice_in}
use Rattle.manifest_advice.specs.Advice.AdviceData.{OtherCase, OldAnnotation}
use Rattle.manifest_advice.specs.declared.holder.Holder.{Holder}
use Rattle.manifest_advice.specs.declared.holder.Holder.TheVariants as of
use Rattle.manifest_advice.specs.declared.holder.Listing.{Listing}
use Rattle.manifest_advice.specs.declared.holder.Listing.TheVariants as listing

abbrev pub listing_text : Listing → List ℕ
listing_text listing.Init = codes "initContainers"
listing_text listing.Main = codes "containers"

-- a container's place, and the rest
abbrev pub container_text : Listing → ℕ → List ℕ → List ℕ
container_text listing index rest = codes "spec." ++ (listing_text listing ++ (codes "[" ++ (decimal index ++ rest)))

-- the place of a holder, with a dot for its member
abbrev pub holder_text : Holder → List ℕ
holder_text of.Manifest = []
holder_text of.Metadata = codes "metadata."
holder_text of.Spec = codes "spec."
holder_text of.PodContext = codes "spec.securityContext."
holder_text of.PodProfile = codes "spec.securityContext.seccompProfile."
holder_text (of.Container listing index) = container_text listing index (codes "].")
holder_text (of.Context listing index) = container_text listing index (codes "].securityContext.")
holder_text (of.Profile listing index) = container_text listing index (codes "].securityContext.seccompProfile.")

abbrev pub advice_place : AdviceData → List ℕ
advice_place (OtherCase holder key name) = holder_text holder ++ key
advice_place (OldAnnotation key) = codes "metadata.annotations[" ++ (quoted_text key ++ codes "]")

abbrev pub advice_words : AdviceData → List ℕ
advice_words (OtherCase holder key name) = codes "ignored, the member is " ++ name
advice_words (OldAnnotation key) = codes "ignored since Kubernetes 1.27, see securityContext.seccompProfile"

abbrev pub advice_text : AdviceData → List ℕ
advice_text told = advice_place told ++ (codes ": " ++ advice_words told)

abbrev pub texts_of : Option Data → List (List ℕ)
texts_of None = []
texts_of (Some tree) = map advice_text (advice_in tree)

-- the advice on these bytes of a manifest, if they are JSON
abbrev pub advice_texts : List ℕ → List (List ℕ)
advice_texts bytes = texts_of (tree_of bytes)
