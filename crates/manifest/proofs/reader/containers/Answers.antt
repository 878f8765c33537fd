-- The containers read from both lists are a list that a pod may have.
use Rattle.std.proofs.Common.{◌≡◌, ◌≤◌, ◌+◌, ◌<◌, codes, length, [], map, Ok, subst, arith}
use Rattle.std.proofs.lemmas.List.{length-map}
use Rattle.serde_json.specs.View.{view}
use Rattle.manifest.specs.declared.containers.TheConstants.{MAX_CONTAINERS}
use Rattle.manifest.specs.Containers.{AreContainers}
use Rattle.manifest.specs.Reading.{listed_of}
use Rattle.manifest.proofs.FoundPod.{lists_read}
use Rattle.manifest.proofs.reader.containers.Goals as goal

pub new-requires-2 : goal.new-requires-2
new-requires-2 c =
    let inits = map view c.args.lists.inits.now in
    let others = map view c.args.lists.others.now in
    let init_count : length inits ≡ length c.args.lists.inits.now = length-map c.args.lists.inits.now view in
    let other_count : length others ≡ length c.args.lists.others.now =
    length-map c.args.lists.others.now view in
    let one : listed_of (codes "initContainers") [] inits ≡ Ok c.in_ok-inits.inits.items =
    rw c.new.ensures.items at c.in_ok-inits.ensures in
    let two : listed_of (codes "containers") c.in_ok-inits.inits.items others ≡ Ok c.in_ok-all.all.items =
    c.in_ok-all.ensures in
    let some : 0 < length others = omega (arith, other_count, c.args.lists.some) in
    let few : length inits + length others ≤ MAX_CONTAINERS =
    omega (arith, init_count, other_count, c.args.lists.few) in
    let read = lists_read (record { inits = inits; others = others }) c.in_ok-inits.inits.items
    c.in_ok-all.all.items some few one two in
    let count : length c.in_ok-inits.inits.items ≡ c.len-count.result =
    omega (arith, c.in_ok-inits.inits.ok, c.len-count.ensures) in
    subst (AreContainers c.in_ok-all.all.items) count read.2
