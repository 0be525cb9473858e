use Rattle.std.proofs.Common.{◌≡◌, ◌<◌, ◌+◌, length, slice_index, List, Bool, ℕ, All, sym, subst, ◌∙◌, arith}
use Rattle.fx_graph_model.specs.Users.{users_of}
use Rattle.fx_graph_model.specs.Marking.{IsClosedBut, MarksAll}
use Rattle.fx_graph_model.proofs.MarkSteps.{listed_start}
use Rattle.fx_graph_model.proofs.Spreading.{Spreads, spreads_start, spreads_more, spreads_end}
use Rattle.fx_graph_edges.proofs.RowLemmas.{row_read, rows_within, goes_up}
use Rattle.fx_graph_edges.proofs.marking.spread.Goals as goal

pub loop-done-init : goal.loop-done-init
loop-done-init c =
    let b = c.requires.begun in
    let size : length b.2 ≡ length c.args.users.now = omega (arith, b.4.flags, c.requires.flags, c.requires.mirrors.rows) in
    let places : length c.args.work.now ≡ length c.args.users.now = omega (arith, c.requires.places, c.requires.mirrors.rows) in
    goes_up _ _ _ _ _ _ _ _ _ b.0 b.1 b.2 b.3 b.4 size places
    (λ names w was closed marks. spreads_start _ names was _ w _ _ closed marks (listed_start _ w))

pub mark_all-end-requires-clause-known : goal.mark_all-end-requires-clause-known
mark_all-end-requires-clause-known c =
    let name = slice_index c.loop-done.work c.loop-done.done in
    let here : name < length c.args.users.now = c.loop-done.invariant.within c.loop-done.done c.loop-done-test.true in
    let long : length c.args.entries.now ≡ length c.loop-done.unread = sym (c.loop-done.auto.unread ∙ c.requires.flags) in
    rw (row_read c.args.users.now name c.index-users-name.result here c.index-users-name.is c.as_slice.result.now c.as_slice.ensures)
    (subst (λ n. All (λ u. u < n) (users_of c.args.users.now name)) long (rows_within c.args.entries.now c.args.users.now c.requires.ranks.0 c.requires.ranks.1 c.requires.mirrors name))

pub loop-done-preserved : goal.loop-done-preserved
loop-done-preserved c =
    let b = c.requires.begun in
    let name = slice_index c.loop-done.work c.loop-done.done in
    let here : name < length c.args.users.now = c.loop-done.invariant.within c.loop-done.done c.loop-done-test.true in
    let row = row_read c.args.users.now name c.index-users-name.result here c.index-users-name.is c.as_slice.result.now c.as_slice.ensures in
    let marked : MarksAll (users_of c.args.users.now name) c.loop-done.unread c.loop-done.work c.loop-done.end c.mark_all-end.new.unread c.mark_all-end.new.work c.mark_all-end.result =
    subst (λ (names : List ℕ). MarksAll names c.loop-done.unread c.loop-done.work c.loop-done.end c.mark_all-end.new.unread c.mark_all-end.new.work c.mark_all-end.result) row c.mark_all-end.ensures in
    let size : length b.2 ≡ length c.args.users.now = omega (arith, b.4.flags, c.requires.flags, c.requires.mirrors.rows) in
    let places : length c.mark_all-end.new.work ≡ length c.args.users.now =
    omega (arith, c.requires.places, c.requires.mirrors.rows, marked.places, c.loop-done.auto.work) in
    let all : (names w : List ℕ) (was : List Bool) → IsClosedBut c.args.entries.now was names → MarksAll names was w 0 c.args.unread.now c.args.work.now c.args.count
    → Spreads c.args.entries.now names was c.mark_all-end.new.unread c.mark_all-end.new.work (c.loop-done.done + 1) c.mark_all-end.result =
    λ names w was closed begun.
    spreads_more _ c.requires.ranks.0 c.requires.ranks.1 _ c.requires.mirrors names _ _ _ _ _ _ _ _
    (c.loop-done.invariant.spreads names w was closed begun) c.loop-done-test.true marked in
    goes_up _ _ _ _ _ _ _ _ _ b.0 b.1 b.2 b.3 b.4 size places all

pub returns-clause-marks : goal.returns-clause-marks
returns-clause-marks c = λ names w was closed begun.
    let s = c.loop-done.invariant.spreads names w was closed begun in
    let done : c.loop-done.done ≡ c.loop-done.end = omega (arith, s.within, c.loop-done-test.false) in
    spreads_end _ names _ _ _ _ (subst (λ d. Spreads c.args.entries.now names was c.loop-done.unread c.loop-done.work d c.loop-done.end) done s)

pub returns-clause-listed : goal.returns-clause-listed
returns-clause-listed c = λ names w was closed begun. (c.loop-done.invariant.spreads names w was closed begun).listed
