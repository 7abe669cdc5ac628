use Rattle.std.proofs.Common.{rules, ◌∙◌}
use Rattle.numerals.proofs.Reading.{date-length, date-first, date-second, date-year, date-month, date-day, date-is, year-fits, month-fits, day-fits}
use Rattle.numerals.proofs.date_in.Goals as goal
use Rattle.numerals.proofs.date_in.Goals.{then-word-ne10-via-then-word-ne10, then-word-ne10-via-else-word-ne10+then-word-ne45, then-word-ne10-via-else-word-ne10+else-word-ne45+then-word-ne45-2}

pub returns-then-word-ne10 : goal.returns-then-word-ne10
returns-then-word-ne10 c =
    elim c.then-word-ne10.branch [
      | then-word-ne10-via-then-word-ne10 w ↦ search (rules, date-length)
      | then-word-ne10-via-else-word-ne10+then-word-ne45 w ↦ search (rules, date-first)
      | then-word-ne10-via-else-word-ne10+else-word-ne45+then-word-ne45-2 w ↦ search (rules, date-second)
    ]

pub returns-in_err-year : goal.returns-in_err-year
returns-in_err-year c =
    c.from_residual.ensures ∙ date-year _ c.if-word-ne10.false c.if-word-ne45.false c.if-word-ne45-2.false c.in_err-year.ensures

pub returns-in_err-month : goal.returns-in_err-month
returns-in_err-month c =
    c.from_residual-in_err-month.ensures ∙ date-month _ c.if-word-ne10.false c.if-word-ne45.false c.if-word-ne45-2.false _ c.in_ok-year.ensures c.in_err-month.ensures

pub returns-in_err-day : goal.returns-in_err-day
returns-in_err-day c =
    c.from_residual-in_err-day.ensures ∙ date-day _ c.if-word-ne10.false c.if-word-ne45.false c.if-word-ne45-2.false _ c.in_ok-year.ensures _ c.in_ok-month.ensures c.in_err-day.ensures

pub returns : goal.returns
returns c = date-is _ c.if-word-ne10.false c.if-word-ne45.false c.if-word-ne45-2.false _ c.in_ok-year.ensures _ c.in_ok-month.ensures _ c.in_ok-day.ensures

pub overflow_cast-year : goal.overflow_cast-year
overflow_cast-year c = year-fits _ c.if-word-ne10.false c.if-word-ne45.false c.if-word-ne45-2.false _ c.in_ok-year.ensures

pub overflow_cast-month : goal.overflow_cast-month
overflow_cast-month c = month-fits _ c.if-word-ne10.false c.if-word-ne45.false c.if-word-ne45-2.false _ c.in_ok-year.ensures _ c.in_ok-month.ensures

pub overflow_cast-day : goal.overflow_cast-day
overflow_cast-day c =
    day-fits _ c.if-word-ne10.false c.if-word-ne45.false c.if-word-ne45-2.false _ c.in_ok-year.ensures _ c.in_ok-month.ensures _ c.in_ok-day.ensures
