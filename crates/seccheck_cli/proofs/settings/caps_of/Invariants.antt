-- Reading the words from this one on after the capabilities so far finds what reading all of them finds.
use Rattle.std.proofs.Common.{◌≡◌, [], map, drop}
use Rattle.json_tree.specs.Reading.{in_order_after}
use Rattle.seccheck_cli.specs.Settings.{cap_of}
use Rattle.seccheck_cli.proofs.settings.caps_of.Given as goal

abbrev pub invariant-loop-word : goal.invariant-loop-word
invariant-loop-word l = in_order_after (λ done word. cap_of word) (map (λ cap. cap.now) l.caps.items)
    (map (λ word. word.now) (drop l.word-index l.words))
    ≡ in_order_after (λ done word. cap_of word) [] (map (λ word. word.now) l.words)
