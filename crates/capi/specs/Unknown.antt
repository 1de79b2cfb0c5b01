-- The sizing and the mode of walk that a number names, and what is answered where it names none. Definitions only.
use Rattle.std.specs.Prelude.{ℕ, zero, suc, cond, [], leb}
use Rattle.sizing.specs.declared.Sizing.{Sizing}
use Rattle.sizing.specs.declared.Sizing.TheVariants.{Square, Axes}
use Rattle.walk.specs.declared.Mode.{Mode}
use Rattle.walk.specs.declared.Mode.TheVariants.{Rust, Sided, Covering}
use Rattle.build.specs.declared.Plan.{Plan}
use Rattle.replies.specs.Replies.{Reply}

-- ---- names

-- 0 is the square sizing, 1 the one by axis, and no further number is asked for
unfoldable pub sizing_by : ℕ → Sizing
sizing_by zero = Square
sizing_by (suc n) = Axes

abbrev pub last_sizing : ℕ
last_sizing = 1

-- 0 is the Rust's walk, 1 the sided one, 2 the covering one, and no further number is asked for
unfoldable pub mode_by : ℕ → Mode
mode_by zero = Rust
mode_by (suc zero) = Sided
mode_by (suc (suc n)) = Covering

abbrev pub last_mode : ℕ
last_mode = 2

-- the plan of a build
abbrev pub plan_by : ℕ → ℕ → Plan
plan_by sizing mode = record { sizing = sizing_by sizing; mode = mode_by mode }

-- ---- a number that names nothing

-- the answer a, which goes by what n names; where n is above the last number that names something, a number of the border's own, and no value
unfoldable pub unless_above : ℕ → ℕ → ℕ → Reply → Reply
unless_above last number n a = cond (leb n last) a (record { number = number; values = [] })

-- 102 for a sizing that there is not
abbrev pub unless_unknown : ℕ → Reply → Reply
unless_unknown sizing a = unless_above last_sizing 102 sizing a

-- 103 for a mode of walk that there is not
abbrev pub unless_unwalked : ℕ → Reply → Reply
unless_unwalked mode a = unless_above last_mode 103 mode a
