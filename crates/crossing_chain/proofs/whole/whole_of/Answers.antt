-- `crossing_chain::whole::whole_of` meets its contract. Assumes nothing.
use Rattle.std.proofs.Common.{◌≡◌, ℤ, sym, ap, ◌∙◌, to_z-of_z, w32, w64, to_z, of_z}
use lib.Ieee.{Float, binary64, of_bits, neg, eq, of_int, to_signed}
use Rattle.crossing_chain.proofs.Wholes.{Within, within, none_low, none_high, cut_whole, cut_none, cut_asks, cut_fits}
use Rattle.crossing_chain.proofs.whole.whole_of.Goals as goal

pub truncating_f64_to_i64-cut-requires : goal.truncating_f64_to_i64-cut-requires
unfolding of_bits neg
truncating_f64_to_i64-cut-requires c =
    let near : Within c.args.v = within c.args.v c.if-v.true c.if-v-2.true in
    let asks = cut_asks _ near in
    record { lower_bound = asks.0; upper_bound = asks.1 }

pub overflow_cast-result : goal.overflow_cast-result
unfolding of_bits neg
overflow_cast-result c =
    let near : Within c.args.v = within c.args.v c.if-v.true c.if-v-2.true in
    let cut_back : to_z w64 (of_z w64 c.truncating_f64_to_i64-cut.result) ≡ to_signed 63 c.args.v =
    let e = c.truncating_f64_to_i64-cut.ensures in
    ap (λ (z : ℤ). to_z w64 (of_z w64 z)) e ∙ to_z-of_z (cut_fits _ near).1 in
    rw cut_back (cut_fits _ near).0

pub returns-then-nearest_i64_to_f64-v : goal.returns-then-nearest_i64_to_f64-v
unfolding of_bits neg
returns-then-nearest_i64_to_f64-v c =
    let near : Within c.args.v = within c.args.v c.if-v.true c.if-v-2.true in
    let cut_back : to_z w64 (of_z w64 c.truncating_f64_to_i64-cut.result) ≡ to_signed 63 c.args.v =
    let e = c.truncating_f64_to_i64-cut.ensures in
    ap (λ (z : ℤ). to_z w64 (of_z w64 z)) e ∙ to_z-of_z (cut_fits _ near).1 in
    let same : c.nearest_i64_to_f64.result ≡ of_int binary64 (to_signed 63 c.args.v) = c.nearest_i64_to_f64.ensures ∙ ap (of_int binary64) cut_back in
    ap (λ (z : ℤ). to_z w32 (of_z w32 z)) cut_back ∙ to_z-of_z (cut_fits _ near).0
    ∙ cut_whole _ near (ap (λ (y : Float). eq y c.args.v) (sym same) ∙ c.if-nearest_i64_to_f64-v.true)

pub returns-else-nearest_i64_to_f64-v : goal.returns-else-nearest_i64_to_f64-v
unfolding of_bits neg
returns-else-nearest_i64_to_f64-v c =
    let near : Within c.args.v = within c.args.v c.if-v.true c.if-v-2.true in
    let cut_back : to_z w64 (of_z w64 c.truncating_f64_to_i64-cut.result) ≡ to_signed 63 c.args.v =
    let e = c.truncating_f64_to_i64-cut.ensures in
    ap (λ (z : ℤ). to_z w64 (of_z w64 z)) e ∙ to_z-of_z (cut_fits _ near).1 in
    let same : c.nearest_i64_to_f64.result ≡ of_int binary64 (to_signed 63 c.args.v) = c.nearest_i64_to_f64.ensures ∙ ap (of_int binary64) cut_back in
    cut_none _ near (ap (λ (y : Float). eq y c.args.v) (sym same) ∙ c.if-nearest_i64_to_f64-v.false)

pub returns-else-v-2 : goal.returns-else-v-2
unfolding of_bits neg
returns-else-v-2 c = none_high _ c.if-v-2.false

pub returns-else-v : goal.returns-else-v
unfolding of_bits neg
returns-else-v c = none_low _ c.if-v.false
