-- The data that a page is given, as lists.
use Rattle.std.specs.Prelude.{map}
use Rattle.nms_drawing.specs.Data.{Lists, Tables}
use Rattle.nms_drawing.specs.declared.page_data.Lists.{Lists as GivenLists}
use Rattle.nms_drawing.specs.declared.page_data.Tables.{Tables as GivenTables}

abbrev pub lists_of : GivenLists → Lists
lists_of lists = record {
  about = map (λ text. text.now) lists.about.now;
  symbols = map (λ text. text.now) lists.symbols.now;
  names = map (λ text. text.now) lists.names.now;
  causes = map (λ text. text.now) lists.causes.now;
  ids = map (λ text. text.now) lists.ids.now;
  words = map (λ text. text.now) lists.words.now;
}

abbrev pub tables_of : GivenTables → Tables
tables_of tables = record {
  days = tables.days.now;
  lines = tables.lines.now;
  board = tables.board.now;
  lots = tables.lots.now;
  executions = tables.executions.now;
  rows = tables.rows.now;
  aside = tables.aside.now;
  plans = tables.plans.now;
  legs = tables.legs.now;
  quotations = tables.quotations.now;
  said = tables.said.now;
}
