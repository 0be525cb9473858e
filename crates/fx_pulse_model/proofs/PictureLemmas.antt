-- The entries of a picture rise by their paths and have different birth numbers.
use Rattle.std.proofs.Common.{refl, sym, ap, subst, ◌∙◌, ◌≡◌, ℕ, zero, suc, ◌+◌, ◌<◌, ◌≤◌, ◌==◌, Bool, true, false, cond, All, List, [], ◌∷◌, filter, get_or, length, None, Some, arith, eqb}
use Rattle.std.specs.List.{AllByRecursion, AllZip, IsDistinct, range_with_len}
use Rattle.std.specs.Cmp.Lexicographic.{slice_cmp}
use Rattle.std.specs.Ordering.{nat_cmp}
use Rattle.std.specs.declared.cmp.Ordering.TheVariants.{Less}
use Rattle.std.proofs.lemmas.Bool.Decides.{nat_tests}
use Rattle.std.proofs.lemmas.List.{get_or-map, length-map}
use Rattle.std.proofs.lemmas.List.Elements.{All-cons, All-nil}
use Rattle.std.proofs.lemmas.Map.Keys.{apart_from_distinct}
use Rattle.fx_base.specs.declared.keys.NodeKey.{NodeKey}
use Rattle.fx_kinds.specs.declared.facts.BoxFacts.{BoxFacts}
use Rattle.fx_layout_sweeps.specs.Nodes.{no_node, node_at, parents}
use Rattle.fx_picture.specs.Entries.{HasDistinctBirths, IsBefore, Rises, entry_with}
use Rattle.fx_picture.specs.declared.entries.Entry.{Entry}
use Rattle.fx_pulse_model.specs.Lines.{AreInOrder, path_of}
use Rattle.fx_pulse_model.specs.Pictures.{Drawn, IsEntry, IsPicture, shown_places, shows}
use Rattle.fx_pulse_model.specs.Scenes.{births}
use Rattle.fx_pulse_model.proofs.LineLemmas.{path_before}

-- ---- places that rise
-- a place behind another, of so many
abbrev Later : ℕ → ℕ → ℕ → Type 0
Later count k j = (k < j) × (j < count)

abbrev Climbs : ℕ → List ℕ → Type 0
Climbs count [] = Unit {0}
Climbs count (k ∷ ks) = (k < count) × (AllByRecursion (Later count k) ks × Climbs count ks)

later : (test : ℕ → Bool) (count k m a : ℕ) → k < a → a + m ≤ count
    → AllByRecursion (Later count k) (filter test (range_with_len a m))
later test count k zero a less within = tt
later test count k (suc m) a less within =
    kept (test a) (later test count k m (a + 1) (omega (arith, less)) (omega (arith, within)))
  where
    kept : (t : Bool) → AllByRecursion (Later count k) (filter test (range_with_len (a + 1) m))
        → AllByRecursion (Later count k)
        (cond t (a ∷ filter test (range_with_len (a + 1) m)) (filter test (range_with_len (a + 1) m)))
    kept true rest = ((less, omega (arith, within)), rest)
    kept false rest = rest

climbs : (test : ℕ → Bool) (count m a : ℕ) → a + m ≤ count → Climbs count (filter test (range_with_len a m))
climbs test count zero a within = tt
climbs test count (suc m) a within =
    kept (test a) (later test count a m (a + 1) (omega arith) (omega (arith, within)))
    (climbs test count m (a + 1) (omega (arith, within)))
  where
    kept : (t : Bool) → AllByRecursion (Later count a) (filter test (range_with_len (a + 1) m))
        → Climbs count (filter test (range_with_len (a + 1) m))
        → Climbs count (cond t (a ∷ filter test (range_with_len (a + 1) m)) (filter test (range_with_len (a + 1) m)))
    kept true behind rest = (omega (arith, within), (behind, rest))
    kept false behind rest = rest

-- ---- paths
above : (d : Drawn) (k : ℕ) (e : Entry) (js : List ℕ) (es : List Entry) → AreInOrder (parents d.boxes)
    → e.path ≡ path_of (parents d.boxes) k → AllByRecursion (Later (length d.boxes) k) js → AllZip (IsEntry d) js es
    → All (IsBefore e) es
above d k e [] [] order path behind zip = All-nil (IsBefore e)
above d k e [] (f ∷ fs) order path behind zip = absurd zip
above d k e (j ∷ js) [] order path behind zip = absurd zip
above d k e (j ∷ js) (f ∷ fs) order path ((less, within), behind) (here, zip) =
    let long : length (parents d.boxes) ≡ length d.boxes = length-map d.boxes (λ (node : BoxFacts). node.parent) in
    let first : IsBefore e f =
    subst (λ p. slice_cmp nat_cmp p f.path ≡ Less) (sym path)
    (subst (λ p. slice_cmp nat_cmp (path_of (parents d.boxes) k) p ≡ Less) (sym here.path)
    (path_before (parents d.boxes) k j order less (omega (arith, within, long)))) in
    All-cons (IsBefore e) f fs first (above d k e js fs order path behind zip)

rising : (d : Drawn) (ks : List ℕ) (es : List Entry) → AreInOrder (parents d.boxes) → Climbs (length d.boxes) ks
    → AllZip (IsEntry d) ks es → Rises es
rising d [] [] order up zip = tt
rising d [] (f ∷ fs) order up zip = absurd zip
rising d (k ∷ ks) [] order up zip = absurd zip
rising d (k ∷ ks) (e ∷ es) order (within, (behind, up)) (here, zip) =
    (above d k e ks es order here.path behind zip, rising d ks es order up zip)

pub rises : (d : Drawn) (entries : List Entry) → AreInOrder (parents d.boxes) → IsPicture d entries → Rises entries
rises d entries order picture =
    rising d (shown_places d) entries order (climbs (shows d) (length d.boxes) (length d.boxes) 0 (omega arith)) picture

-- ---- birth numbers
birth_of : BoxFacts → ℕ
birth_of node = node.key.birth

others : (d : Drawn) (k : ℕ) (js : List ℕ) (es : List Entry) → IsDistinct eqb (births d.boxes)
    → AllByRecursion (Later (length d.boxes) k) js → AllZip (IsEntry d) js es
    → entry_with (node_at d.boxes k).key.birth es ≡ None
unfolding birth_of
others d k [] [] distinct behind zip = refl
others d k [] (f ∷ fs) distinct behind zip = absurd zip
others d k (j ∷ js) [] distinct behind zip = absurd zip
others d k (j ∷ js) (f ∷ fs) distinct ((less, within), behind) (here, zip) =
    let long : length (births d.boxes) ≡ length d.boxes = length-map d.boxes birth_of in
    let apart = apart_from_distinct eqb (births d.boxes) k j 0 distinct less (omega (arith, within, long)) in
    let one : get_or (births d.boxes) k 0 ≡ (node_at d.boxes k).key.birth =
    get_or-map birth_of d.boxes k no_node 0 (omega (arith, less, within)) in
    let two : get_or (births d.boxes) j 0 ≡ (node_at d.boxes j).key.birth =
    get_or-map birth_of d.boxes j no_node 0 within in
    let mine : f.key.birth ≡ (node_at d.boxes j).key.birth = ap (λ (key : NodeKey). key.birth) here.key in
    let other : (f.key.birth == (node_at d.boxes k).key.birth) ≡ false = differ apart one two mine in
    ap (λ t. cond t (Some f) (entry_with (node_at d.boxes k).key.birth fs)) other
    ∙ others d k js fs distinct behind zip
  where
    differ : {a b c e g : ℕ} → eqb a b ≡ false → a ≡ c → b ≡ e → g ≡ e → (g == c) ≡ false
    differ {a} {b} {c} {e} {g} apart one two mine = grind (arith, nat_tests)

differing : (d : Drawn) (ks : List ℕ) (es : List Entry) → IsDistinct eqb (births d.boxes)
    → Climbs (length d.boxes) ks → AllZip (IsEntry d) ks es → HasDistinctBirths es
differing d [] [] distinct up zip = tt
differing d [] (f ∷ fs) distinct up zip = absurd zip
differing d (k ∷ ks) [] distinct up zip = absurd zip
differing d (k ∷ ks) (e ∷ es) distinct (within, (behind, up)) (here, zip) = (
  ap (λ (key : NodeKey). entry_with key.birth es) here.key ∙ others d k ks es distinct behind zip,
  differing d ks es distinct up zip,
)

pub differ : (d : Drawn) (entries : List Entry) → IsDistinct eqb (births d.boxes) → IsPicture d entries
    → HasDistinctBirths entries
differ d entries distinct picture =
    differing d (shown_places d) entries distinct
    (climbs (shows d) (length d.boxes) (length d.boxes) 0 (omega arith)) picture
