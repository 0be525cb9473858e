use Rattle.std.proofs.Common.{◌≡◌, ◌-◌, ◌<◌, ℕ, true, false, length, Contains, refl, sym, ap, ◌∙◌, arith}
use Rattle.std.specs.Vec.{with_items}
use Rattle.std.proofs.lemmas.List.{get_or_read, with_items_is}
use Rattle.fx_base.specs.declared.work.Work.{Work}
use Rattle.fx_graph_model.specs.Marking.{at}
use Rattle.fx_graph_model.specs.Unread.{marked}
use Rattle.fx_graph_model.specs.Uses.{uses}
use Rattle.fx_graph_model.proofs.Reading.{measure, settles_start, read_value, measure-push}
use Rattle.fx_graph.specs.declared.lists.Lists.{Lists}
use Rattle.fx_graph.proofs.ReadLemmas.{reads_from, room_above, push, pop, evaluable, cost_failed, cost_ended, pop_smaller, ended}
use Rattle.fx_graph.proofs.reading.settle_unread.Goals as goal

pub loop-count-init : goal.loop-count-init
loop-count-init g c =
    let l = c.args.lists.now in
    let h = c.requires.holds in (
      rw (with_items_is l.work c.push_place.new.stack (c.push_place.auto.stack ∙ c.as_mut_slice.ensures.len), c.push_place.ensures, c.as_mut_slice.ensures.value)
          (reads_from _ _ _ _ _ _ _ _ _ h.ranks.0 h.ranks.1
          (λ rank ranked. settles_start _ rank ranked _ _ _ _ _ h.settled h.work_length c.requires.unread)),
      refl,
      refl,
    )

pub push_place-requires-in-Some : goal.push_place-requires-in-Some
push_place-requires-in-Some g c =
    let h = c.requires.holds in
    let es = c.args.lists.now.entries.items in
    let ls = c.loop-count.lists in
    let k = c.loop-count.count in
    let same : ls.entries.items ≡ es = ap (λ (x : Lists). x.entries.items) c.loop-count.invariant.1 in
    let s = c.loop-count.invariant.0.settles h.ranks.0 h.ranks.1 in
    let top = c.index-top.result.now in
    let last : k - 1 < length ls.work.items = omega (arith, c.loop-count.invariant.0.few, c.loop-count-test.true) in
    let here : at ls.work.items (k - 1) ≡ top = sym (get_or_read ls.work.items (k - 1) top last c.index-top.ensures 0) in
    let used : Contains (uses es (at ls.work.items (k - 1))) c.in-Some.operand = rw here (rw (c.as_slice.ensures.value, same) at c.in-Some.ensures.0) in
    omega (arith, ap length c.as_mut_slice-in-Some.ensures.value, room_above es h.ranks.0 h.ranks.1 _ _ _ _ _ _ _ _ s c.loop-count-test.true _ used)

pub loop-count-smaller-in-Some : goal.loop-count-smaller-in-Some
loop-count-smaller-in-Some g c =
    let h = c.requires.holds in
    let es = c.args.lists.now.entries.items in
    let ls = c.loop-count.lists in
    let k = c.loop-count.count in
    let same : ls.entries.items ≡ es = ap (λ (x : Lists). x.entries.items) c.loop-count.invariant.1 in
    let s = c.loop-count.invariant.0.settles h.ranks.0 h.ranks.1 in
    let top = c.index-top.result.now in
    let last : k - 1 < length ls.work.items = omega (arith, c.loop-count.invariant.0.few, c.loop-count-test.true) in
    let here : at ls.work.items (k - 1) ≡ top = sym (get_or_read ls.work.items (k - 1) top last c.index-top.ensures 0) in
    let used : Contains (uses es (at ls.work.items (k - 1))) c.in-Some.operand = rw here (rw (c.as_slice.ensures.value, same) at c.in-Some.ensures.0) in
    let room = room_above es h.ranks.0 h.ranks.1 _ _ _ _ _ _ _ _ s c.loop-count-test.true _ used in
    measure-push ls.unread.items k (omega (arith, room, s.long, s.settled.flags))

pub loop-count-preserved-in-Some : goal.loop-count-preserved-in-Some
loop-count-preserved-in-Some g c =
    let h = c.requires.holds in
    let es = c.args.lists.now.entries.items in
    let ls = c.loop-count.lists in
    let k = c.loop-count.count in
    let same : ls.entries.items ≡ es = ap (λ (x : Lists). x.entries.items) c.loop-count.invariant.1 in
    let s = c.loop-count.invariant.0.settles h.ranks.0 h.ranks.1 in
    let top = c.index-top.result.now in
    let last : k - 1 < length ls.work.items = omega (arith, c.loop-count.invariant.0.few, c.loop-count-test.true) in
    let here : at ls.work.items (k - 1) ≡ top = sym (get_or_read ls.work.items (k - 1) top last c.index-top.ensures 0) in
    let used : Contains (uses es (at ls.work.items (k - 1))) c.in-Some.operand = rw here (rw (c.as_slice.ensures.value, same) at c.in-Some.ensures.0) in
    let on : marked ls.unread.items c.in-Some.operand ≡ true = rw c.as_slice-in-loop-count.ensures.value at c.in-Some.ensures.1 in (
      rw (
        with_items_is ls.work c.push_place-in-Some.new.stack (c.push_place-in-Some.auto.stack ∙ c.as_mut_slice-in-Some.ensures.len),
        c.push_place-in-Some.ensures,
        c.as_mut_slice-in-Some.ensures.value,
      )
          (reads_from es _ _ _ _ _ _ _ _ h.ranks.0 h.ranks.1
          (λ rank ranked. push es rank ranked _ _ _ _ _ _ _ _ (c.loop-count.invariant.0.settles rank ranked) c.loop-count-test.true _ used on)),
      ap (λ (x : Lists). record x { unread = ls.unread; cache = ls.cache; work = with_items ls.work c.push_place-in-Some.new.stack }) c.loop-count.invariant.1,
      c.loop-count.invariant.2,
    )

pub evaluate_at-requires-clause-evaluable : goal.evaluate_at-requires-clause-evaluable
evaluate_at-requires-clause-evaluable g c =
    let h = c.requires.holds in
    let es = c.args.lists.now.entries.items in
    let ls = c.loop-count.lists in
    let k = c.loop-count.count in
    let same : ls.entries.items ≡ es = ap (λ (x : Lists). x.entries.items) c.loop-count.invariant.1 in
    let s = c.loop-count.invariant.0.settles h.ranks.0 h.ranks.1 in
    let top = c.index-top.result.now in
    let last : k - 1 < length ls.work.items = omega (arith, c.loop-count.invariant.0.few, c.loop-count-test.true) in
    let here : at ls.work.items (k - 1) ≡ top = sym (get_or_read ls.work.items (k - 1) top last c.index-top.ensures 0) in
    rw (c.as_slice-in-None-2.ensures.value, c.as_slice-in-None.ensures.value, same)
    (evaluable es h.ranks.0 h.ranks.1 h.sound ls.cache.items s.settled.values top)

pub returns-in_err-value-in-None-clause-cost : goal.returns-in_err-value-in-None-clause-cost
returns-in_err-value-in-None-clause-cost g c =
    let h = c.requires.holds in
    let es = c.args.lists.now.entries.items in
    let ls = c.loop-count.lists in
    let k = c.loop-count.count in
    let same : ls.entries.items ≡ es = ap (λ (x : Lists). x.entries.items) c.loop-count.invariant.1 in
    let s = c.loop-count.invariant.0.settles h.ranks.0 h.ranks.1 in
    let top = c.index-top.result.now in
    let last : k - 1 < length ls.work.items = omega (arith, c.loop-count.invariant.0.few, c.loop-count-test.true) in
    let here : at ls.work.items (k - 1) ≡ top = sym (get_or_read ls.work.items (k - 1) top last c.index-top.ensures 0) in
    cost_failed es h.ranks.0 _ _ _ _ _ _ _ _ _ _ s c.loop-count-test.true here (rw (c.as_slice-in-None.ensures.value, same) at c.evaluate_at.ensures.most)

pub loop-count-smaller : goal.loop-count-smaller
loop-count-smaller g c =
    let h = c.requires.holds in
    let es = c.args.lists.now.entries.items in
    let ls = c.loop-count.lists in
    let k = c.loop-count.count in
    let same : ls.entries.items ≡ es = ap (λ (x : Lists). x.entries.items) c.loop-count.invariant.1 in
    let s = c.loop-count.invariant.0.settles h.ranks.0 h.ranks.1 in
    let top = c.index-top.result.now in
    let last : k - 1 < length ls.work.items = omega (arith, c.loop-count.invariant.0.few, c.loop-count-test.true) in
    let here : at ls.work.items (k - 1) ≡ top = sym (get_or_read ls.work.items (k - 1) top last c.index-top.ensures 0) in
    let less : measure (with_items ls.unread c.keep.new.unread).items (k - 1) < measure ls.unread.items k =
    rw (
      with_items_is ls.unread c.keep.new.unread (c.keep.auto.unread ∙ c.as_mut_slice-in-None-2.ensures.len),
      c.keep.ensures.unread,
      c.as_mut_slice-in-None-2.ensures.value,
      ← here,
    )
    (pop_smaller es h.ranks.0 _ _ _ _ _ _ _ _ s c.loop-count-test.true) in
    less

pub loop-count-preserved : goal.loop-count-preserved
loop-count-preserved g c =
    let h = c.requires.holds in
    let es = c.args.lists.now.entries.items in
    let ls = c.loop-count.lists in
    let k = c.loop-count.count in
    let same : ls.entries.items ≡ es = ap (λ (x : Lists). x.entries.items) c.loop-count.invariant.1 in
    let s = c.loop-count.invariant.0.settles h.ranks.0 h.ranks.1 in
    let top = c.index-top.result.now in
    let last : k - 1 < length ls.work.items = omega (arith, c.loop-count.invariant.0.few, c.loop-count-test.true) in
    let here : at ls.work.items (k - 1) ≡ top = sym (get_or_read ls.work.items (k - 1) top last c.index-top.ensures 0) in
    let free : (o : ℕ) → Contains (uses es top) o → marked ls.unread.items o ≡ false = rw (c.as_slice.ensures.value, c.as_slice-in-loop-count.ensures.value, same) at c.in-None.ensures in
    let cache = with_items_is ls.cache c.keep.new.cache (c.keep.auto.cache ∙ c.as_mut_slice-in-None.ensures.len) in
    let unread = with_items_is ls.unread c.keep.new.unread (c.keep.auto.unread ∙ c.as_mut_slice-in-None-2.ensures.len) in
    let value = rw (c.as_slice-in-None.ensures.value, same, c.as_slice-in-None-2.ensures.value) at c.in_ok-value-in-None.ensures.value in
    let steps = rw (c.as_slice-in-None.ensures.value, same) at c.in_ok-value-in-None.ensures.steps in (
      rw (cache, unread, c.keep.ensures.cache, c.keep.ensures.unread, c.as_mut_slice-in-None.ensures.value, c.as_mut_slice-in-None-2.ensures.value)
          (reads_from es _ _ _ _ _ _ _ _ h.ranks.0 h.ranks.1
          (λ rank ranked.
          let t = c.loop-count.invariant.0.settles rank ranked in
          pop es rank ranked _ _ _ _ _ _ _ _ t c.loop-count-test.true top here _ _ free
          (value ∙ read_value es rank ranked _ _ t.settled top free)
          steps)),
      ap (λ (x : Lists). record x { unread = with_items ls.unread c.keep.new.unread; cache = with_items ls.cache c.keep.new.cache; work = ls.work }) c.loop-count.invariant.1,
      c.evaluate_at.ensures.others ∙ ap (λ (w : Work g.row.L.Denot). record w { evaluated = c.evaluate_at.new.work.evaluated }) c.loop-count.invariant.2,
    )

pub returns-clause-ok : goal.returns-clause-ok
returns-clause-ok g c =
    let h = c.requires.holds in
    let ls = c.loop-count.lists in
    let frame = c.loop-count.invariant.1 in
    let entries = ap (λ (x : Lists). x.entries) frame in
    let newly = ap (λ (x : Lists). x.newly) frame in
    let count = ap (λ (x : Lists). x.newly_count) frame in
    let read = ended _ h.ranks.0 _ _ _ _ _ _ _ _ (c.loop-count.invariant.0.settles h.ranks.0 h.ranks.1) (omega (arith, c.loop-count-test.false)) in
    rw (entries, newly, count, read) refl

pub returns-clause-cost : goal.returns-clause-cost
returns-clause-cost g c =
    let h = c.requires.holds in
    cost_ended _ h.ranks.0 _ _ _ _ _ _ _ _ (c.loop-count.invariant.0.settles h.ranks.0 h.ranks.1)
