-- The turns of a read.
use Rattle.std.proofs.Common.{◌≡◌, ◌<◌, ◌≤◌, ◌+◌, ◌-◌, ℕ, zero, suc, Bool, true, false, cond, List, [], ◌∷◌, ◌++◌, length, get_or, set, map, take, Contains, slice_index, refl, sym, ap, subst, ◌∙◌, arith}
use Rattle.std.proofs.lemmas.List.{map-append}
use Rattle.fx_base.specs.declared.keys.Name.{Name}
use Rattle.fx_base.specs.declared.values.Value.{Value}
use Rattle.fx_graph_model.specs.declared.entries.Entry.{Entry}
use Rattle.fx_graph_model.specs.declared.entries.Definition.{Definition}
use Rattle.fx_graph_model.specs.declared.entries.Definition.TheVariants.{Base, Bound, Forgotten}
use Rattle.fx_base.specs.Names.{numbers, name_of}
use Rattle.fx_graph_model.specs.Uses.{Ranked, entry_of, operands_in, uses, bound_in}
use Rattle.fx_graph_model.specs.Sound.{AreSound, HasKind}
use Rattle.fx_graph_model.specs.Eager.{eager}
use Rattle.fx_graph_model.specs.Unread.{marked, after_reading, evaluations, IsPartRead}
use Rattle.fx_graph_model.specs.Marking.{at}
use Rattle.fx_graph_edges.proofs.RowLemmas.{numbers_more}
use Rattle.fx_graph.specs.Asked.{IsEvaluable, kept_value}
use Rattle.fx_graph_model.proofs.Reading.{Settles, settles_push, settles_pop, settles_room, settles_end, measure, measure-pop, part_more, read_cost, bound_unread-clear}

-- an operand goes on the stack
pub push : (es : List Entry) (rank : ℕ → ℕ) → Ranked es rank → (name : ℕ) (before now : List Bool) (cache : List Value)
    (stack : List ℕ) (count cost cost' : ℕ) → Settles es rank name before now cache stack count cost cost' → 0 < count
    → (o : ℕ) → Contains (uses es (at stack (count - 1))) o → marked now o ≡ true
    → Settles es rank name before now cache (set stack count o) (count + 1) cost cost'
push es rank ranked name before now cache stack zero cost cost' s some o c on = absurd (omega arith)
push es rank ranked name before now cache stack (suc count) cost cost' s some o c on =
    let top : suc count - 1 ≡ count = omega arith in
    let more : suc (suc count) ≡ suc count + 1 = omega arith in
    subst (λ n. Settles es rank name before now cache (set stack (suc count) o) n cost cost') more
    (settles_push es rank ranked name before now cache stack count cost cost' s o (subst (λ n. Contains (uses es (at stack n)) o) top c) on)

-- the top is read
pub pop : (es : List Entry) (rank : ℕ → ℕ) → Ranked es rank → (name : ℕ) (before now : List Bool) (cache : List Value)
    (stack : List ℕ) (count cost cost' : ℕ) → Settles es rank name before now cache stack count cost cost' → 0 < count
    → (top : ℕ) → at stack (count - 1) ≡ top
    → (value : Value) (cost'' : ℕ) → ((o : ℕ) → Contains (uses es top) o → marked now o ≡ false)
    → value ≡ eager es top → cost'' ≡ cost' + cond (bound_in es top) 1 0
    → Settles es rank name before (set now top false) (set cache top value) stack (count - 1) cost cost''
pop es rank ranked name before now cache stack zero cost cost' s some top here value cost'' free same paid = absurd (omega arith)
pop es rank ranked name before now cache stack (suc count) cost cost' s some top here value cost'' free same paid =
    let less : count ≡ suc count - 1 = omega arith in
    let there : at stack count ≡ top = ap (at stack) less ∙ here in
    subst (λ n. Settles es rank name before (set now top false) (set cache top value) stack n cost cost'') less
    (subst (λ t. Settles es rank name before (set now t false) (set cache t value) stack count cost cost'') there
    (settles_pop es rank ranked name before now cache stack count cost cost' s value cost''
    (λ o c. free o (subst (λ t. Contains (uses es t) o) there c))
    (same ∙ ap (eager es) (sym there))
    (paid ∙ ap (λ t. cost' + cond {A = ℕ} (bound_in es t) 1 0) (sym there))))

-- where the next evaluation fails, it too was one of those that the read may take
pub cost_failed : (es : List Entry) (rank : ℕ → ℕ) (name : ℕ) (before now : List Bool) (cache : List Value)
    (stack : List ℕ) (count cost cost' cost'' top : ℕ) → Settles es rank name before now cache stack count cost cost' → 0 < count
    → at stack (count - 1) ≡ top → cost'' ≤ cost' + cond (bound_in es top) 1 0
    → cost'' ≤ cost + evaluations es name before
cost_failed es rank name before now cache stack count cost cost' cost'' top s some here paid =
    let last : count - 1 < count = omega arith in
    let each = s.each (count - 1) last in
    let inside : top < length es = subst (λ t. t < length es) here each.0 in
    let on : marked now top ≡ true = subst (λ t. marked now t ≡ true) here each.1 in
    let led = subst (λ t. IsPartRead es name before (set now t false)) here (part_more es name before now (at stack (count - 1)) s.part each.2) in
    omega (arith, read_cost es name before (set now top false) led, bound_unread-clear es now top inside on, s.sum)

pub cost_ended : (es : List Entry) (rank : ℕ → ℕ) (name : ℕ) (before now : List Bool) (cache : List Value)
    (stack : List ℕ) (count cost cost' : ℕ) → Settles es rank name before now cache stack count cost cost'
    → cost' ≤ cost + evaluations es name before
cost_ended es rank name before now cache stack count cost cost' s = omega (arith, read_cost es name before now s.part, s.sum)

-- The turns of a read: the stack's places are names, and there is room for them.
pub record Reads (es : List Entry) (name : ℕ) (before now : List Bool) (cache : List Value) (stack : List ℕ) (count cost cost' : ℕ) : Type 0 where
  pub long : length stack ≡ length es
  pub few : count ≤ length stack
  pub within : (i : ℕ) → i < count → slice_index stack i < length es
  pub settles : (rank : ℕ → ℕ) → Ranked es rank → Settles es rank name before now cache stack count cost cost'

pub reads_from : (es : List Entry) (name : ℕ) (before now : List Bool) (cache : List Value) (stack : List ℕ) (count cost cost' : ℕ)
    (rank : ℕ → ℕ) → Ranked es rank → ((rank : ℕ → ℕ) → Ranked es rank → Settles es rank name before now cache stack count cost cost')
    → Reads es name before now cache stack count cost cost'
reads_from es name before now cache stack count cost cost' rank ranked all =
    let s = all rank ranked in
    record {
      long = s.long;
      few = few_from count s;
      within = λ i h. (s.each i h).0;
      settles = all;
    }
  where
    few_from : (n : ℕ) → Settles es rank name before now cache stack n cost cost' → n ≤ length stack
    few_from zero s = omega arith
    few_from (suc n) s =
        let room : rank (at stack n) + n < length es = s.low n (omega arith) in
        let long : length stack ≡ length es = s.long in
        omega arith

-- there is room for one more on the stack
pub room_above : (es : List Entry) (rank : ℕ → ℕ) → Ranked es rank → (name : ℕ) (before now : List Bool) (cache : List Value)
    (stack : List ℕ) (count cost cost' : ℕ) → Settles es rank name before now cache stack count cost cost' → 0 < count
    → (o : ℕ) → Contains (uses es (at stack (count - 1))) o → count < length stack
room_above es rank ranked name before now cache stack zero cost cost' s some o c = absurd (omega arith)
room_above es rank ranked name before now cache stack (suc count) cost cost' s some o c =
    let top : suc count - 1 ≡ count = omega arith in
    settles_room es rank ranked name before now cache stack count cost cost' s o (subst (λ n. Contains (uses es (at stack n)) o) top c)

-- the expression of a sound store can be evaluated over what is kept
pub evaluable : (es : List Entry) (rank : ℕ → ℕ) → Ranked es rank → AreSound es → (cache : List Value) → length cache ≡ length es → (name : ℕ)
    → IsEvaluable (length cache) (entry_of es name).definition
evaluable es rank ranked sound cache long name =
    by_case (entry_of es name).definition (sound.kinds name) (λ o c. subst (λ n. o < n) (sym long) (ranked.within name o c))
  where
    by_case : (d : Definition) → HasKind es (entry_of es name) d → ((o : ℕ) → Contains (operands_in d) o → o < length cache) → IsEvaluable (length cache) d
    by_case (Base value) has within = tt
    by_case (Bound expr operands) has within = (within, has.1)
    by_case Forgotten has within = tt

-- the measure falls where the top is read
pub pop_smaller : (es : List Entry) (rank : ℕ → ℕ) (name : ℕ) (before now : List Bool) (cache : List Value)
    (stack : List ℕ) (count cost cost' : ℕ) → Settles es rank name before now cache stack count cost cost' → 0 < count
    → measure (set now (at stack (count - 1)) false) (count - 1) < measure now count
pop_smaller es rank name before now cache stack zero cost cost' s some = absurd (omega arith)
pop_smaller es rank name before now cache stack (suc count) cost cost' s some =
    let less : count ≡ suc count - 1 = omega arith in
    let more : count + 1 ≡ suc count = omega arith in
    subst (λ n. measure (set now (at stack n) false) n < measure now (suc count)) less
    (subst (λ n. measure (set now (at stack count) false) count < measure now n) more
    (measure-pop now (at stack count) count (s.each count (omega arith)).1))

pub ended : (es : List Entry) (rank : ℕ → ℕ) (name : ℕ) (before now : List Bool) (cache : List Value)
    (stack : List ℕ) (count cost cost' : ℕ) → Settles es rank name before now cache stack count cost cost' → count ≡ 0
    → now ≡ after_reading es name before
ended es rank name before now cache stack count cost cost' s none =
    settles_end es rank name before now cache stack cost cost' (subst (λ n. Settles es rank name before now cache stack n cost cost') none s)

-- one value more was copied
pub kept_more : (cache : List Value) (names : List Name) (i : ℕ) → i < length names → (values : List Value) (value : Value) → values ≡ map (kept_value cache) (numbers (take i names))
    → value ≡ kept_value cache (get_or names i (name_of 0)).0 → (new : List Value) → new ≡ values ++ value ∷ []
    → new ≡ map (kept_value cache) (numbers (take (i + 1) names))
kept_more cache names i h values value so_far same new pushed =
    rw (pushed, so_far, same, numbers_more names i (name_of 0) h, map-append (kept_value cache) (numbers (take i names)) ((get_or names i (name_of 0)).0 ∷ [])) refl
