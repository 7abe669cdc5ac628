-- The room that a line takes in the buffer.
use Rattle.std.specs.Prelude.{ℕ, ◌+◌, ◌*◌, ◌≤◌}

-- the most characters of a number: 20 digits hold 64 bits
abbrev pub longest_number : ℕ
longest_number = 20

-- a signed number has its sign besides
abbrev pub longest_signed : ℕ
longest_signed = 21

-- what an `end` line shows of a journal block lies in its first bytes
abbrev pub shown_bytes : ℕ
shown_bytes = 20

-- a value has a space before it
abbrev pub longest_value : ℕ
longest_value = 1 + longest_signed

abbrev pub longest_values : ℕ
longest_values = 32 * longest_value

-- the longest line but for its end: 'solution' and 32 values
abbrev pub longest_content : ℕ
longest_content = 8 + longest_values

-- the longest line
abbrev pub longest_line : ℕ
longest_line = longest_content + 1

-- what was put from place `at` on, of at most `longest` bytes, ends before place r
abbrev pub Ends : ℕ → ℕ → ℕ → Type 0
Ends longest at r = (at ≤ r) × (r ≤ at + longest)
