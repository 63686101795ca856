-- `date::reader::zone_at` meets its contract: the two lengths of a zone, and what each reads to. Assumes nothing.
use Rattle.date.proofs.Texts.{two_most, field_most, zone_utc, zone_letter, zone_signed, zone_length}
use borrow.Author.Rules.{rules}
use Rattle.date.proofs.reader.zone_at.Goals as goal

pub returns-then-s-at-eq90 : goal.returns-then-s-at-eq90
returns-then-s-at-eq90 c = search (zone_utc, rules)

pub returns-then-s-at : goal.returns-then-s-at
returns-then-s-at c = search (zone_letter, rules)

pub signed-requires : goal.signed-requires
signed-requires c = search (two_most, field_most, rules)

pub returns-then-s-at-2 : goal.returns-then-s-at-2
returns-then-s-at-2 c = search (zone_signed, rules)

pub returns : goal.returns
returns c = search (zone_length, rules)
