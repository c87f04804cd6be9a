use Rattle.refutations.proofs.Clauses.{reading_in_words}
use Rattle.refutations.proofs.Literals.{marks_in_words}
use Rattle.refutations.proofs.Openings.{line_in_words}
use Rattle.refutations.proofs.Verdicts.{hints_in_words}
use Rattle.refutations.proofs.rule_in_words.Goals as goal

pub returns : goal.returns
returns c = record { marks = marks_in_words; line = line_in_words; reading = reading_in_words; hints = hints_in_words }
