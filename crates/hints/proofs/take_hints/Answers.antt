use Rattle.std.proofs.Common.{◌≡◌, true, length, get_or, set, Some, arith, w32, SFits, rules}
use Rattle.std.proofs.lemmas.Int.{to_z-of_z}
use Rattle.std.specs.Option.{option_map}
use Rattle.hints.specs.Bytes.{marks_of}
use Rattle.hints.specs.Hints.{names, assign, reading}
use Rattle.hints.specs.declared.Reading.TheVariants.{Conflict, Forced}
use Rattle.std.proofs.lemmas.Bool.Decides.{nat_tests}
use Rattle.hints.proofs.Bytes.{set_assigns}
use Rattle.hints.proofs.Readings.{forced_names}
use Rattle.hints.proofs.Lines.{hint_forced}
use Rattle.hints.proofs.take_hints.Goals as goal

pub bounds-marks-place : goal.bounds-marks-place
bounds-marks-place g c =
    let l = c.in-Forced.literal in
    let said : c.read_clause.result ≡ Some (Forced l) = grind arith in
    let fits : SFits w32 l = search rules in
    let V = length c.loop-number.marks in
    let m = marks_of c.loop-number.marks in
    let o = g.C.ClauseSource.clauses c.loop-number.source (get_or c.args.hints.now c.loop-number.number-index 0) in
    let told : Some (Forced l) ≡ option_map (reading V m Conflict) o = cc in
    let named : names V l ≡ true = forced_names V m o l told in
    grind (arith, to_z-of_z, nat_tests)

pub loop-number-preserved : goal.loop-number-preserved
loop-number-preserved g c =
    let law = g.met.C.ClauseSource in
    let still = law.same _ _ c.loop-number.invariant.1 in
    let l = c.in-Forced.literal in
    let said : c.read_clause.result ≡ Some (Forced l) = grind arith in
    let fits : SFits w32 l = search rules in
    let bytes = c.loop-number.marks in
    let V = length bytes in
    let m = marks_of bytes in
    let hs = c.args.hints.now in
    let i = c.loop-number.number-index in
    let clauses = g.C.ClauseSource.clauses c.loop-number.source in
    let told : Some (Forced l) ≡ option_map (reading V m Conflict) (clauses (get_or hs i 0)) = cc in
    let named : names V l ≡ true = forced_names V m (clauses (get_or hs i 0)) l told in
    let made : marks_of (set bytes c.place.result c.mark.result) ≡ assign m l true = grind (arith, to_z-of_z, set_assigns) in
    let next = hint_forced V clauses m hs i l c.loop-number-test.true told in
    (cc, law.goes_on _ _ _ c.loop-number.invariant.1 c.read_clause.ensures.steady)
