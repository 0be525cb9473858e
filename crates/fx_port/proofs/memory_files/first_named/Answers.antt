-- The first entry whose name is the one that is asked for gives the map's bytes.
use Rattle.std.proofs.Common.{◌≡◌, ℕ, ◌+◌, ◌<◌, List, ◌∷◌, length, drop, get_or, true, false, Some, String, Vec, refl, sym, ◌∙◌, ap, suc, add-one}
use Rattle.std.specs.Global.{Global}
use Rattle.std.specs.String.{string_bytes}
use Rattle.std.specs.Str.{bytes_eq}
use Rattle.std.specs.Ordering.{nat_cmp}
use Rattle.std.specs.Cmp.Lexicographic.{slice_cmp}
use Rattle.std.specs.FinMap.{find, get-from_entries}
use Rattle.std.proofs.Math.Seq.{drop-cons}
use Rattle.std.proofs.lemmas.Cmp.{nat_list_cmp_total}
use Rattle.std.proofs.lemmas.Map.Text.{is_eq-slice_cmp}
use Rattle.fx_port.specs.MemoryFiles.{entries_of}
use Rattle.fx_port.proofs.memory_files.first_named.Goals as goal

-- what is left from an index on begins with the file there
drop-file : (files : List (String Global × Vec ℕ Global)) (i : ℕ) (file : String Global × Vec ℕ Global)
    → i < length files → file ≡ get_or files i file → drop i files ≡ file ∷ drop (i + 1) files
drop-file files i file within is =
    rw add-one (drop-cons files i file within ∙ ap (λ (f : String Global × Vec ℕ Global). f ∷ drop (suc i) files) (sym is))

-- the file has the name
find-here : (files : List (String Global × Vec ℕ Global)) (i : ℕ) (file : String Global × Vec ℕ Global) (name : List ℕ)
    → i < length files → file ≡ get_or files i file → bytes_eq name (string_bytes file.0) ≡ true
    → find (slice_cmp nat_cmp) name (entries_of (drop i files)) ≡ Some file.1.items
find-here files i file name within is same =
    rw (drop-file files i file within is, is_eq-slice_cmp name (string_bytes file.0), same) refl

-- the file has another name
find-past : (files : List (String Global × Vec ℕ Global)) (i : ℕ) (file : String Global × Vec ℕ Global) (name : List ℕ)
    → i < length files → file ≡ get_or files i file → bytes_eq name (string_bytes file.0) ≡ false
    → find (slice_cmp nat_cmp) name (entries_of (drop i files)) ≡ find (slice_cmp nat_cmp) name (entries_of (drop (i + 1) files))
find-past files i file name within is other =
    rw (drop-file files i file within is, is_eq-slice_cmp name (string_bytes file.0), other) refl

pub loop-key-init : goal.loop-key-init
loop-key-init c = sym (get-from_entries nat_list_cmp_total _ c.args.name.now)

pub returns-then-eq : goal.returns-then-eq
returns-then-eq c =
    let same : bytes_eq c.args.name.now (string_bytes c.loop-key-item.result.0) ≡ true =
    ap (bytes_eq c.args.name.now) (sym c.as_str.ensures.value) ∙ sym c.eq.ensures ∙ c.if-eq.true in
    ap Some c.as_slice.ensures.value
    ∙ sym (find-here _ _ c.loop-key-item.result c.args.name.now c.loop-key-test.true c.loop-key-item.is same)
    ∙ c.loop-key.invariant

pub loop-key-preserved : goal.loop-key-preserved
loop-key-preserved c =
    let other : bytes_eq c.args.name.now (string_bytes c.loop-key-item.result.0) ≡ false =
    ap (bytes_eq c.args.name.now) (sym c.as_str.ensures.value) ∙ sym c.eq.ensures ∙ c.if-eq.false in
    sym (find-past _ _ c.loop-key-item.result c.args.name.now c.loop-key-test.true c.loop-key-item.is other)
    ∙ c.loop-key.invariant
