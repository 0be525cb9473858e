use Rattle.std.proofs.Common.{◌≡◌, ◌≤◌, ℕ, get_or, length, take}
use Rattle.fx_style.specs.declared.kept.Fresh.{Fresh}
use Rattle.fx_style.specs.Kept.{put_looks, put_rest}
use Rattle.fx_style.proofs.putting.put_all.Given as goal

abbrev pub invariant-loop-place : goal.invariant-loop-place
invariant-loop-place l = record {
  looks : l.looks ≡ put_looks l.initial.looks (take l.place l.initial.fresh);
  rest : l.rest ≡ put_rest l.initial.rest (take l.place l.initial.fresh);
  left : (k : ℕ) (d : Fresh) → l.place ≤ k → get_or l.fresh k d ≡ get_or l.initial.fresh k d;
  long : length l.fresh ≡ length l.initial.fresh;
}
