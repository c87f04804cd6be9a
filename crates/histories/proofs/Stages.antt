-- Which stages take which events.
use Rattle.std.proofs.Common.{◌≡◌, ℕ, ◌≢◌, ◌⊎◌, Some, None, Option, refl, inl, inr, arith}
use Rattle.std.proofs.lemmas.Option.{none-some}
use Rattle.stages.specs.declared.Event.TheVariants.{Add, Close, Line, EmptyLine, Strike, Pass, Show}
use Rattle.stages.specs.declared.Stage.{Stage}
use Rattle.stages.specs.declared.Stage.TheVariants.{Draw, Base, BaseDone, Step, Safe, Shown}
use Rattle.stages.specs.Stages.{after}

never : {A : Type 0} (t : Stage) → ◌≡◌ {A = Option Stage} None (Some t) → A
never t e = absurd (none-some t e)

led : (t u : Stage) → ◌≡◌ {A = Option Stage} (Some t) (Some u) → u ≡ t
led t u e = cc

pub add_at : (s t : Stage) → after s Add ≡ Some t → (s ≡ Draw) × (t ≡ Draw)
add_at Draw t e = (refl, led Draw t e)
add_at Base t e = never t e
add_at BaseDone t e = never t e
add_at Step t e = never t e
add_at Safe t e = never t e
add_at Shown t e = never t e

pub close_at : (s t : Stage) → after s Close ≡ Some t → (s ≡ Draw) × (t ≡ Base)
close_at Draw t e = (refl, led Base t e)
close_at Base t e = never t e
close_at BaseDone t e = never t e
close_at Step t e = never t e
close_at Safe t e = never t e
close_at Shown t e = never t e

-- a line with literals, or a strike: the base is being refuted, or the step
abbrev pub GoesOn : Stage → Stage → Type 0
GoesOn s t = ((s ≡ Base) × (t ≡ Base)) ⊎ ((s ≡ Step) × (t ≡ Step))

pub line_at : (s t : Stage) → after s Line ≡ Some t → GoesOn s t
line_at Draw t e = never t e
line_at Base t e = inl (refl, led Base t e)
line_at BaseDone t e = never t e
line_at Step t e = inr (refl, led Step t e)
line_at Safe t e = never t e
line_at Shown t e = never t e

pub strike_at : (s t : Stage) → after s Strike ≡ Some t → GoesOn s t
strike_at Draw t e = never t e
strike_at Base t e = inl (refl, led Base t e)
strike_at BaseDone t e = never t e
strike_at Step t e = inr (refl, led Step t e)
strike_at Safe t e = never t e
strike_at Shown t e = never t e

-- the empty line
pub empty_at : (s t : Stage) → after s EmptyLine ≡ Some t → ((s ≡ Base) × (t ≡ BaseDone)) ⊎ ((s ≡ Step) × (t ≡ Safe))
empty_at Draw t e = never t e
empty_at Base t e = inl (refl, led BaseDone t e)
empty_at BaseDone t e = never t e
empty_at Step t e = inr (refl, led Safe t e)
empty_at Safe t e = never t e
empty_at Shown t e = never t e

pub pass_at : (s t : Stage) → after s Pass ≡ Some t → (s ≡ BaseDone) × (t ≡ Step)
pass_at Draw t e = never t e
pass_at Base t e = never t e
pass_at BaseDone t e = (refl, led Step t e)
pass_at Step t e = never t e
pass_at Safe t e = never t e
pass_at Shown t e = never t e

pub show_at : (s t : Stage) → after s Show ≡ Some t → (s ≡ Base) × (t ≡ Shown)
show_at Draw t e = never t e
show_at Base t e = (refl, led Shown t e)
show_at BaseDone t e = never t e
show_at Step t e = never t e
show_at Safe t e = never t e
show_at Shown t e = never t e

-- ---- stages are apart

pub base_drawn : Base ≢ Draw
base_drawn e = let z : ◌≡◌ {A = ℕ} 0 1 = cc in omega arith

pub base_done_drawn : BaseDone ≢ Draw
base_done_drawn e = let z : ◌≡◌ {A = ℕ} 0 1 = cc in omega arith

pub step_drawn : Step ≢ Draw
step_drawn e = let z : ◌≡◌ {A = ℕ} 0 1 = cc in omega arith

pub safe_drawn : Safe ≢ Draw
safe_drawn e = let z : ◌≡◌ {A = ℕ} 0 1 = cc in omega arith

pub shown_drawn : Shown ≢ Draw
shown_drawn e = let z : ◌≡◌ {A = ℕ} 0 1 = cc in omega arith

pub draw_shown : Draw ≢ Shown
draw_shown e = let z : ◌≡◌ {A = ℕ} 0 1 = cc in omega arith

pub base_shown : Base ≢ Shown
base_shown e = let z : ◌≡◌ {A = ℕ} 0 1 = cc in omega arith

pub base_done_shown : BaseDone ≢ Shown
base_done_shown e = let z : ◌≡◌ {A = ℕ} 0 1 = cc in omega arith

pub step_shown : Step ≢ Shown
step_shown e = let z : ◌≡◌ {A = ℕ} 0 1 = cc in omega arith

pub safe_shown : Safe ≢ Shown
safe_shown e = let z : ◌≡◌ {A = ℕ} 0 1 = cc in omega arith

pub drawn_or_not : (s : Stage) → (s ≡ Draw) ⊎ (s ≢ Draw)
drawn_or_not Draw = inl refl
drawn_or_not Base = inr base_drawn
drawn_or_not BaseDone = inr base_done_drawn
drawn_or_not Step = inr step_drawn
drawn_or_not Safe = inr safe_drawn
drawn_or_not Shown = inr shown_drawn
