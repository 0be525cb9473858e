use Rattle.std.proofs.Common.{◌≡◌, ◌++◌, [], ◌<◌, ◌+◌, ℕ, Bool, true, false, List, Option, Some, None, get_or, length, refl, sym, ◌∙◌, ap, subst, inl, inr, arith, add_assoc}
use Rattle.std.specs.Prelude.{slice_get, is_some, option_and_then}
use Rattle.std.specs.List.{filter_map}
use Rattle.std.specs.Option.{option_map}
use Rattle.std.proofs.lemmas.Bool.{cases_eq}
use Rattle.std.proofs.lemmas.Option.{slice_get-get_or, slice_get_read, slice_get_within}
use Rattle.fx_base.specs.declared.work.Work.{Work}
use Rattle.fx_kinds.specs.declared.facts.StyleFacts.{StyleFacts}
use Rattle.fx_node_style.specs.declared.node_styles.NodeStyle.{NodeStyle}
use Rattle.fx_style.specs.declared.kept.Entry.{Entry}
use Rattle.fx_style.specs.declared.kept.Fresh.{Fresh}
use Rattle.fx_style.specs.declared.kept.Rest.{Rest}
use Rattle.fx_look.specs.declared.looks.Look.{Look}
use Rattle.fx_style.specs.Kept.{entry, fresh_at, is_among, kept_at, kept_under, place_of_key}
use Rattle.fx_style.specs.Places.{parent_at, places_up}
use Rattle.fx_style.specs.Plans.{AreSteps, drafted, made_fresh, put_step}
use Rattle.fx_style.specs.Rules.{anew, needs, needs_by, renewed_by, ticks, worked}
use Rattle.fx_style.specs.Turns.{AreRightBelow}
use Rattle.fx_style.proofs.CostLemmas.{worked_more}
use Rattle.fx_style.proofs.FreshLemmas.{AreFew, few_more, fresh-here, fresh-other, long_more, steps_more}
use Rattle.fx_style.proofs.RecodedLemmas.{parent_is}
use Rattle.fx_style.proofs.IdleLemmas.{Idles, idle_cost, idle_right, still_cost, still_right}
use Rattle.fx_style.proofs.UpdateLemmas.{now_of, right_more}
use Rattle.fx_style.proofs.making.made.Goals as goal

both : {A B : Type 0} (P : A → B → Type 0) (x a : A) (y b : B) → x ≡ a → y ≡ b → P a b → P x y
both P x a y b e f p = subst (λ u. P u y) (sym e) (subst (λ v. P a v) (sym f) p)

any_default : {A : Type 0} (xs : List A) (i : ℕ) (d e : A) → i < length xs → get_or xs i d ≡ get_or xs i e
any_default xs i d e within =
    let h : Some (get_or xs i d) ≡ Some (get_or xs i e) =
    sym (slice_get-get_or xs i d within) ∙ slice_get-get_or xs i e within in cc

made_some : {A B : Type 0} (f : A → B) (o : Option A) → is_some o ≡ true → is_some (option_map f o) ≡ true
made_some f None e = e
made_some f (Some x) e = refl

all_more : (fs : List Fresh) (at : ℕ) (o : Option Entry) → fresh_at fs at ≡ None
    → ((k : ℕ) → k < at → is_some (fresh_at fs k) ≡ true) → is_some o ≡ true
    → (k : ℕ) → k < at + 1 → is_some (fresh_at (fs ++ made_fresh at o) k) ≡ true
all_more fs at o none all made k below = elim (cases_eq at k) [
  | inl same ↦
      subst (λ (n : ℕ). is_some (fresh_at (fs ++ made_fresh at o) n) ≡ true) same
      (ap is_some (fresh-here fs at o none) ∙ made)
  | inr differ ↦
      let lower : k < at = omega arith in
      ap is_some (fresh-other fs at o k differ) ∙ all k lower
]

pub loop-at-preserved : goal.loop-at-preserved
loop-at-preserved g c =
    let sheets = c.args.scene.sheets.now in
    let facts = c.args.scene.facts.now in
    let restyle = c.args.restyle.now in
    let looks = c.args.old.looks.now in
    let rest = c.args.old.rest.now in
    let kept = kept_at looks rest facts in
    let at = c.loop-at.at in
    let fs = c.loop-at.fresh in
    let ss = c.loop-at.steps.items in
    let node = c.index-facts-at.result in
    let made = drafted c.in_ok-made.made c.remade.new.memory.draft in
    let o = option_map (entry node.key) made in
    let inv = c.loop-at.invariant in
    let fresh : c.push_made.new.fresh ≡ fs ++ made_fresh at o = c.in_ok-push_made.ensures.fresh in
    let steps : c.push_made.new.steps.items ≡ put_step ss at o (length fs) = c.in_ok-push_made.ensures.steps in
    let there : at < length ss = subst (λ (n : ℕ). at < n) (sym inv.long) c.loop-at-test.true in
    let is : slice_get facts at ≡ Some node =
    slice_get_read facts (length facts) at node refl c.loop-at-test.true c.index-facts-at.is in
    let none : fresh_at fs at ≡ None = inv.low at (omega arith) in
    let listed : c.index-listed.result.now ≡ is_among restyle at =
    c.index-listed.ensures
    ∙ any_default c.in_ok-marks.marks.items at c.index-listed.result.now false
    (subst (λ (n : ℕ). at < n) (sym c.in_ok-marks.ensures.long) c.loop-at-test.true)
    ∙ c.in_ok-marks.ensures.marks at c.loop-at-test.true in
    let under : kept_under looks rest node.key ≡ kept at =
    ap (option_and_then (λ (n : StyleFacts). kept_under looks rest n.key)) (sym is) in
    let up = places_up facts (parent_at facts at) in
    record {
      long = ap length steps ∙ long_more ss at o (length fs) ∙ inv.long;
      steps = both AreSteps c.push_made.new.fresh (fs ++ made_fresh at o) c.push_made.new.steps.items
          (put_step ss at o (length fs)) fresh steps (steps_more fs ss at o inv.steps inv.few none);
      few = both AreFew c.push_made.new.fresh (fs ++ made_fresh at o) c.push_made.new.steps.items
          (put_step ss at o (length fs)) fresh steps (few_more fs ss at o there inv.few);
      low = λ k past.
          ap (λ (l : List Fresh). fresh_at l k) fresh
          ∙ fresh-other fs at o k (λ e. omega arith)
          ∙ inv.low k (omega arith);
      right = subst (λ (l : List Fresh). AreRightBelow sheets facts restyle kept looks rest l (at + 1)) (sym fresh)
          (right_more sheets facts restyle kept looks rest fs at node made c.requires.before is none inv.right
          (c.in_ok-made.ensures.style
          ∙ ap (λ (l : List Fresh). Some (entry node.key (renewed_by c.index-listed.result.now
          (kept_under looks rest node.key) (anew sheets facts at (filter_map (now_of looks rest l) up)))))
          c.as_slice-done.ensures
          ∙ ap (λ (b : Bool). Some (entry node.key (renewed_by b (kept_under looks rest node.key)
          (anew sheets facts at (filter_map (now_of looks rest fs) up))))) listed
          ∙ ap (λ (k : Option NodeStyle). Some (entry node.key (renewed_by (is_among restyle at) k
          (anew sheets facts at (filter_map (now_of looks rest fs) up))))) under));
      all = λ off k below.
          ap (λ (l : List Fresh). is_some (fresh_at l k)) fresh
          ∙ all_more fs at o none (inv.all off)
          (made_some (entry node.key) made (c.in_ok-made.ensures.made off)) k below;
      cost = c.in_ok-made.ensures.cost
          ∙ ap (λ (b : Bool). record c.loop-at.work {
            styled = c.loop-at.work.styled + ticks (needs_by b (kept_under looks rest node.key));
          }) listed
          ∙ ap (λ (k : Option NodeStyle). record c.loop-at.work {
            styled = c.loop-at.work.styled + ticks (needs_by (is_among restyle at) k);
          }) under
          ∙ ap (λ (w : Work g.row.L.Denot). record w { styled = w.styled + ticks (needs restyle kept at) }) inv.cost
          ∙ ap (λ (n : ℕ). record c.args.work.now { styled = n })
          (add_assoc c.args.work.now.styled (worked (needs restyle kept) at) (ticks (needs restyle kept at))
          ∙ ap (λ (n : ℕ). c.args.work.now.styled + n) (worked_more (needs restyle kept) at (at + 1) refl));
    }

-- the parent of a node of the list stands within it
pub is_calm-requires : goal.is_calm-requires
is_calm-requires g c = λ p up.
    let facts = c.args.scene.facts.now in
    let at = c.loop-at.at in
    let node = c.index-facts-at.result in
    let is : slice_get facts at ≡ Some node =
    slice_get_read facts (length facts) at node refl c.loop-at-test.true c.index-facts-at.is in
    let less : p < at = c.requires.before at p node is up in
    let long : length c.as_slice.result.now ≡ length facts =
    ap length c.as_slice.ensures.value ∙ c.in_ok-marks.ensures.long in
    omega (arith, less, long, c.loop-at-test.true)

pub remade-requires-clause-calm : goal.remade-requires-clause-calm
remade-requires-clause-calm g c = λ calm p up.
    let facts = c.args.scene.facts.now in
    let at = c.loop-at.at in
    let node = c.index-facts-at.result in
    let is : slice_get facts at ≡ Some node =
    slice_get_read facts (length facts) at node refl c.loop-at-test.true c.index-facts-at.is in
    let above = sym (parent_is facts at node is) ∙ up in
    let less : p < at = c.requires.before at p node is above in
    sym (c.in_ok-marks.ensures.marks p (omega (arith, less, c.loop-at-test.true)))
    ∙ ap (λ (l : List Bool). get_or l p false) (sym c.as_slice.ensures.value)
    ∙ c.is_calm.ensures.0 calm p above

-- nothing is listed, and each key stands at its place
idles : (facts : List StyleFacts) (restyle : List ℕ) (looks : List Look) (rest : List Rest) → restyle ≡ []
    → length looks ≡ length facts → length rest ≡ length facts
    → ((at : ℕ) (node : StyleFacts) → slice_get facts at ≡ Some node → place_of_key rest node.key ≡ Some at)
    → (at : ℕ) (node : StyleFacts) → slice_get facts at ≡ Some node → Idles restyle looks rest node at
idles facts restyle looks rest none in_looks in_rest stand at node is =
    let within = slice_get_within facts at node is in
    record {
      unlisted = ap (λ (l : List ℕ). is_among l at) none;
      place = stand at node is;
      in_looks = subst (λ (n : ℕ). at < n) (sym in_looks) within;
      in_rest = subst (λ (n : ℕ). at < n) (sym in_rest) within;
    }

pub returns-then-is_still-clause-right : goal.returns-then-is_still-clause-right
returns-then-is_still-clause-right g c =
    let facts = c.args.scene.facts.now in
    let restyle = c.args.restyle.now in
    let looks = c.args.old.looks.now in
    let rest = c.args.old.rest.now in
    let still = c.is_still.ensures.0 c.if-is_still.true in
    let long = c.requires.stay still.1 in
    subst (λ (l : List Fresh). AreRightBelow c.args.scene.sheets.now facts restyle (kept_at looks rest facts) looks
    rest l (length facts)) (sym c.taken_entries-fresh.ensures)
    (still_right c.args.scene.sheets.now facts restyle looks rest c.requires.before
    (idles facts restyle looks rest still.0 long.0 long.1 still.2) (length facts) (omega arith))

pub returns-then-is_still-clause-all : goal.returns-then-is_still-clause-all
returns-then-is_still-clause-all g c = λ must k below.
    let still = c.is_still.ensures.0 c.if-is_still.true in
    absurd (let h : true ≡ false = sym still.1 ∙ must in cc)

pub returns-then-is_still-clause-cost : goal.returns-then-is_still-clause-cost
returns-then-is_still-clause-cost g c =
    let facts = c.args.scene.facts.now in
    let restyle = c.args.restyle.now in
    let looks = c.args.old.looks.now in
    let rest = c.args.old.rest.now in
    let still = c.is_still.ensures.0 c.if-is_still.true in
    let long = c.requires.stay still.1 in
    let none = still_cost facts restyle looks rest (idles facts restyle looks rest still.0 long.0 long.1 still.2)
    (length facts) (omega arith) in
    let same : c.args.work.now.styled
    ≡ c.args.work.now.styled + worked (needs restyle (kept_at looks rest facts)) (length facts) =
    omega (arith, none) in
    ap (λ (n : ℕ). record c.args.work.now { styled = n }) same

pub remade-requires-clause-before_it : goal.remade-requires-clause-before_it
remade-requires-clause-before_it g c = λ p named.
    let marked = c.marked_before.ensures p named in (
      marked.0,
      sym (c.in_ok-marks.ensures.marks p (omega (arith, marked.0, c.loop-at-test.true)))
          ∙ ap (λ (l : List Bool). get_or l p false) (sym c.as_slice-in-loop-at.ensures.value)
          ∙ marked.1,
    )

pub loop-at-preserved-then-is_idle : goal.loop-at-preserved-then-is_idle
loop-at-preserved-then-is_idle g c =
    let facts = c.args.scene.facts.now in
    let restyle = c.args.restyle.now in
    let looks = c.args.old.looks.now in
    let rest = c.args.old.rest.now in
    let kept = kept_at looks rest facts in
    let at = c.loop-at.at in
    let fs = c.loop-at.fresh in
    let node = c.index-facts-at.result in
    let inv = c.loop-at.invariant in
    let idle = c.is_idle.ensures.0 c.if-is_idle.true in
    let is : slice_get facts at ≡ Some node =
    slice_get_read facts (length facts) at node refl c.loop-at-test.true c.index-facts-at.is in
    let listed : c.index-listed.result.now ≡ is_among restyle at =
    c.index-listed.ensures
    ∙ any_default c.in_ok-marks.marks.items at c.index-listed.result.now false
    (subst (λ (n : ℕ). at < n) (sym c.in_ok-marks.ensures.long) c.loop-at-test.true)
    ∙ c.in_ok-marks.ensures.marks at c.loop-at-test.true in
    let long = c.requires.stay idle.1 in
    let idles : Idles restyle looks rest node at = record {
      unlisted = sym listed ∙ idle.0;
      place = idle.2;
      in_looks = subst (λ (n : ℕ). at < n) (sym long.0) c.loop-at-test.true;
      in_rest = subst (λ (n : ℕ). at < n) (sym long.1) c.loop-at-test.true;
    } in
    record {
      long = inv.long;
      steps = inv.steps;
      few = inv.few;
      low = λ k past. inv.low k (omega (arith, past));
      right = idle_right c.args.scene.sheets.now facts restyle looks rest fs at node c.requires.before is
          (inv.low at (omega arith)) idles inv.right;
      all = λ must k below. absurd (let h : true ≡ false = sym idle.1 ∙ must in cc);
      cost = inv.cost
          ∙ ap (λ (n : ℕ). record c.args.work.now { styled = c.args.work.now.styled + n })
          (idle_cost facts restyle looks rest at (at + 1) node is idles refl);
    }
