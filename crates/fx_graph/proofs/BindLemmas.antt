-- What a binding asks, and what it leaves of what the graph keeps.
use Rattle.std.proofs.Common.{◌≡◌, ◌<◌, ◌≤◌, ◌+◌, ◌-◌, ℕ, ltb, Bool, true, false, cond, List, [], ◌∷◌, ◌++◌, length, get_or, set, take, map, replicate, Contains, None, refl, sym, ap, ◌∙◌, arith}
use Rattle.std.proofs.lemmas.Bool.{ltb-true, lt-ltb}
use Rattle.std.proofs.lemmas.List.{length-set, map-append}
use Rattle.fx_base.specs.declared.keys.Name.{Name}
use Rattle.fx_base.specs.declared.kinds.Kind.{Kind}
use Rattle.fx_base.specs.declared.values.Value.{Value}
use Rattle.fx_expr.specs.Tree.{Tree, is_within}
use Rattle.fx_graph_model.specs.declared.entries.Entry.{Entry}
use Rattle.fx_graph_model.specs.declared.errors.GraphError.TheVariants.{Unknown, Cycle}
use Rattle.fx_base.specs.Names.{numbers, name_of}
use Rattle.fx_graph_model.specs.Uses.{Ranked, entry_of, uses, unknown_in, leads}
use Rattle.fx_graph_model.specs.Unread.{marked, unmarked, after_marking}
use Rattle.fx_graph_model.specs.Marking.{MarksAll}
use Rattle.fx_graph_model.specs.Users.{Row, Mirrors}
use Rattle.fx_graph_model.specs.Changes.{bound_to, with_binding}
use Rattle.fx_base.specs.Answers.{refused_first}
use Rattle.fx_graph_model.specs.Refusals.{kind_at, unknown_name, fit_refusal, operand_count}
use Rattle.fx_graph_model.proofs.Members.{contains_first, contains_later, contains_map, map_contains}
use Rattle.fx_graph_model.proofs.Flags.{same_test, unmarked_most}
use Rattle.fx_graph_model.proofs.MarkSteps.{marks_none, marks_more}
use Rattle.fx_graph_model.proofs.Ranks.{ranked_bound}
use Rattle.fx_graph_model.proofs.Changed.{known_within}
use Rattle.fx_graph_model.proofs.Binding.{settled_bound, operand_count-set}
use Rattle.fx_graph_model.proofs.SoundLemmas.{sound_bound}
use Rattle.fx_graph_model.proofs.Refusing.{Bindable, or_else_none, refused_none, refused_same, marked-blank}
use Rattle.fx_graph.specs.Store.{IsStore}
use Rattle.fx_graph_edges.proofs.RowLemmas.{numbers_more}

-- the names of a binding that fits
pub fit_within : (es : List Entry) (name : Name) (expr : Tree) (operands : List Name) → None ≡ fit_refusal name expr operands es
    → (name.0 < length es) × ((o : ℕ) → Contains (numbers operands) o → o < length es)
unfolding fit_refusal
fit_within es name expr operands none =
    let known = (or_else_none (unknown_name es (name ∷ operands)) _ (sym none)).0 in
    let own = refused_none Unknown (λ (n : Name). unknown_in es n.0) (name ∷ operands) known name (contains_first name operands) in (
      known_within es name.0 own,
      λ o c.
          let found = map_contains (λ (n : Name). n.0) operands o c in
          known_within es o
          (ap (unknown_in es) (sym found.2)
          ∙ refused_none Unknown (λ (n : Name). unknown_in es n.0) (name ∷ operands) known found.0 (contains_later name operands found.0 found.1)),
    )

-- one kind more was found
pub kinds_more : (es : List Entry) (names : List Name) (i : ℕ) → i < length names → (kinds : List Kind) (kind : Kind) → kinds ≡ map (kind_at es) (numbers (take i names))
    → kind ≡ kind_at es (get_or names i (name_of 0)).0 → (new : List Kind) → new ≡ kinds ++ kind ∷ []
    → new ≡ map (kind_at es) (numbers (take (i + 1) names))
kinds_more es names i h kinds kind so_far same new pushed =
    rw (pushed, so_far, same, numbers_more names i (name_of 0) h, map-append (kind_at es) (numbers (take i names)) ((get_or names i (name_of 0)).0 ∷ [])) refl

-- one name was marked
pub marks_one : (flags : List Bool) (work : List ℕ) (name : ℕ) (flags' : List Bool) (work' : List ℕ) (count : ℕ) → name < length flags → length flags ≤ length work
    → flags' ≡ set flags name true → work' ≡ cond (marked flags name) work (set work 0 name) → count ≡ cond (marked flags name) 0 1
    → MarksAll (name ∷ []) flags work 0 flags' work' count
marks_one flags work name flags' work' count within room f w c =
    let few : 0 + unmarked flags ≤ length work = omega (arith, unmarked_most flags) in
    rw (f, w, c) (marks_more [] flags work 0 flags work 0 name (marks_none flags work 0) within few)

-- flags that were set upward from a name tell who leads to it
pub marked_leads : (es : List Entry) (flags : List Bool) (name : ℕ) (operands : List Name) → flags ≡ after_marking es (name ∷ []) (replicate (length es) false)
    → ((o : ℕ) → Contains (numbers operands) o → o < length es)
    → refused_first Cycle (λ (operand : Name). marked flags operand.0) operands ≡ refused_first Cycle (λ (operand : Name). leads es operand.0 name) operands
marked_leads es flags name operands same within =
    refused_same Cycle (λ (operand : Name). marked flags operand.0) (λ (operand : Name). leads es operand.0 name) operands
    (λ operand c.
    ap (λ (f : List Bool). marked f operand.0) same
    ∙ marked-blank es (length es) name operand.0 (within operand.0 (contains_map (λ (n : Name). n.0) operands operand c)))

-- a binding that may be made has ranks
pub bind_ranked : (es : List Entry) (rank : ℕ → ℕ) → Ranked es rank → (name : ℕ) (expr : Tree) (operands : List ℕ) → Bindable es name expr operands
    → (after : ℕ → ℕ) × Ranked (with_binding name expr operands es) after
bind_ranked es rank ranked name expr operands b =
    ranked_bound es rank ranked name (bound_to expr operands (entry_of es name)) (λ o c. (known_within es o (b.operands_known o c), b.free o c))

-- how many operands there are with the binding
pub bind_counted : (es : List Entry) (name : ℕ) (expr : Tree) (operands : List ℕ) → name < length es
    → operand_count (with_binding name expr operands es) + length (uses es name) ≡ operand_count es + length operands
bind_counted es name expr operands within = operand_count-set es name (bound_to expr operands (entry_of es name)) within

-- the test for too many operands, without a sum that could be too large
pub full_same : (total used more after : ℕ) → used ≤ total → total ≤ 1000000 → after + used ≡ total + more
    → ltb (1000000 - (total - used)) more ≡ ltb 1000000 after
full_same total used more after within few sum =
    same_test (ltb (1000000 - (total - used)) more) (ltb 1000000 after)
    (λ e. lt-ltb 1000000 after (omega (arith, ltb-true (1000000 - (total - used)) more e)))
    (λ e. lt-ltb (1000000 - (total - used)) more (omega (arith, ltb-true 1000000 after e)))

-- a binding was made
pub store_bound : (es : List Entry) (users users' : List Row) (unread before : List Bool) (newly : List Name) (n : ℕ) (cache : List Value) (work : List ℕ) (total : ℕ)
    (name : ℕ) (expr : Tree) (operands : List ℕ) (newly' : List Name) (n' : ℕ) (work' : List ℕ) (total' : ℕ)
    → IsStore es users unread before newly n cache work total
    → Bindable es name expr operands → is_within expr (length operands) ≡ true → Mirrors (with_binding name expr operands es) users'
    → length newly' ≡ length es → n' ≤ length es → length work' ≡ length es
    → total' + length (uses es name) ≡ total + length operands
    → IsStore (with_binding name expr operands es) users' (after_marking (with_binding name expr operands es) (name ∷ []) unread) before newly' n' cache work' total'
store_bound es users users' unread before newly n cache work total name expr operands newly' n' work' total' s b places m l h w sum =
    let entry : Entry = bound_to expr operands (entry_of es name) in
    let long : length (with_binding name expr operands es) ≡ length es = length-set es name entry in
    let after = bind_ranked es s.ranks.0 s.ranks.1 name expr operands b in
    let count = bind_counted es name expr operands (known_within es name b.known) in
    let counted : total' ≡ operand_count (with_binding name expr operands es) = omega (arith, count, sum, s.counted) in
    record {
      ranks = after;
      sound = sound_bound es s.sound name expr operands b.known b.writable b.kind places b.operands_known;
      settled = settled_bound es after.0 name entry after.1 unread cache s.settled;
      mirrors = m;
      spare_unset = s.spare_unset ∙ ap (λ n. replicate n false) (sym long);
      newly_length = l ∙ sym long;
      newly_few = omega (arith, h, long);
      work_length = w ∙ sym long;
      few = omega (arith, s.few, long);
      counted = counted;
      operands_few = omega (arith, b.few, counted);
    }
