-- One row of a column of typed buffers: a mark, and what stands in the buffer.
use Rattle.std.specs.Prelude.{ℕ, if◌then◌else◌, nat_eq, List, [], get_or, pos, false}
use Rattle.vx_value.specs.declared.value.Kind.{Kind}
use Rattle.vx_value.specs.declared.value.Kind.TheVariants as kind
use Rattle.vx_value.specs.declared.value.Value.{Value}
use Rattle.vx_value.specs.declared.value.Value.TheVariants as value

-- Under mark 0 the row has what stands in the buffer, under mark 1 it is null. Evaluation has further marks
-- for its faults.
pub record Lane : Type 0 where
  pub mark : ℕ
  pub raw : Value

-- the same where the buffer has texts
pub record TextRow : Type 0 where
  pub mark : ℕ
  pub text : List ℕ

abbrev pub lane : ℕ → Value → Lane
lane mark raw = record { mark = mark; raw = raw }

abbrev pub text_row : ℕ → List ℕ → TextRow
text_row mark text = record { mark = mark; text = text }

abbrev pub lane_of_text : TextRow → Lane
lane_of_text row = lane row.mark (value.Text row.text)

-- the row's value: no mark but 0 lets what stands in the buffer through
abbrev pub value_of : Lane → Value
value_of l = if nat_eq l.mark 0 then l.raw else value.Null

-- every mark but 0 is the mark of a null
abbrev pub settled_mark : ℕ → ℕ
settled_mark mark = if nat_eq mark 0 then 0 else 1

abbrev pub settled : Lane → Lane
settled l = lane (settled_mark l.mark) l.raw

abbrev pub settled_row : TextRow → TextRow
settled_row row = text_row (settled_mark row.mark) row.text

-- what stands in a buffer where nothing was put
abbrev pub blank : Kind → Value
blank kind.Bool = value.Bool false
blank kind.Int = value.Int (pos 0)
blank kind.Text = value.Text []

-- a null
abbrev pub absent : Kind → Lane
absent k = lane 1 (blank k)

abbrev pub text_at : List TextRow → ℕ → TextRow
text_at rows row = get_or rows row (text_row 1 [])
