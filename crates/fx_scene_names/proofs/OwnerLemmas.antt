-- A name split at its first `.`.
use Rattle.std.proofs.Common.{◌≡◌, ◌<◌, ℕ, true, false, eqb, List, length, Option, Some, None, Bor, cond, sym, ◌∙◌, ap, arith}
use Rattle.std.proofs.lemmas.Grind.{common_steps}
use Rattle.std.proofs.lemmas.Str.Pattern.{IsSplitOnceResult, split_once_first}
use Rattle.std.specs.List.{before_first, after_first, position_or_len}
use Rattle.std.specs.Option.{option_map}
use Rattle.fx_text.specs.Characters.{full_stop}
use Rattle.fx_scene_names.specs.Names.{is_stop, split_name}

abbrev Parts : Type 0
Parts = Bor (List ℕ) × Bor (List ℕ)

at_end : (n m : ℕ) → n ≡ m → eqb n m ≡ true
at_end n m e = grind (arith, common_steps)

within : (n m : ℕ) → n < m → eqb n m ≡ false
within n m h = grind (arith, common_steps)

dot_is_ascii : full_stop < 128
dot_is_ascii = grind (arith, common_steps)

pub split_is : (name : List ℕ) (r : Option Parts) → IsSplitOnceResult full_stop name r
    → option_map (λ (parts : Parts). (parts.0.now, parts.1.now)) r ≡ split_name name
split_is name None h =
    let e = split_once_first full_stop name None h dot_is_ascii in
    sym (ap (λ b. cond b None (Some (before_first is_stop name, after_first is_stop name)))
    (at_end (position_or_len is_stop name) (length name) e))
split_is name (Some parts) h =
    let facts = split_once_first full_stop name (Some parts) h dot_is_ascii in
    ap (λ front. Some (front, parts.1.now)) facts.1
    ∙ (ap (λ rest. Some (before_first is_stop name, rest)) facts.2
    ∙ sym (ap (λ b. cond b None (Some (before_first is_stop name, after_first is_stop name)))
    (within (position_or_len is_stop name) (length name) facts.0)))
