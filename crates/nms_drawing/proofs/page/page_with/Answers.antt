-- `page_with`: the page has these lists and tables.
use Rattle.std.proofs.Common.{◌≡◌, [], ℕ, List, ap, ◌∙◌, if◌then◌else◌}
use Rattle.std.proofs.lemmas.Result.{IfOk-weaker}
use Rattle.nms_drawing.specs.Data.{json_text}
use Rattle.nms_drawing.specs.Page.{HasReport, IsPage}
use Rattle.nms_drawing.specs.PageData.{lists_of, tables_of}
use Rattle.nms_drawing.proofs.page.page_with.Goals as goal

pub returns : goal.returns
returns c =
    let window = c.args.content.now.window.now in
    let lists = c.lists_with-lists.result in
    let tables = c.tables_with-tables.result in
    let sorted = c.in_ok-sorted.ensures in
    IfOk-weaker c.whole_page.result _ _ (λ text has. record {
      lists = lists_of lists;
      tables = tables_of tables;
      report = has.0;
      whole = has.1;
      named = c.lists_with-lists.ensures.symbols ∙ c.requires.symbols;
      parts = c.lists_with-lists.ensures.names ∙ c.requires.parts;
      days = c.tables_with-tables.ensures.days ∙ c.deref.ensures.value ∙ c.in_ok-days.ensures;
      rows = c.args.rows.now;
      changes = c.requires.rows;
      lines = c.tables_with-tables.ensures.lines ∙ sorted.best;
      board = c.tables_with-tables.ensures.board ∙ ap (λ (all : List (List ℕ)). if window.bests then [] else all) sorted.board;
      lots = c.tables_with-tables.ensures.lots ∙ sorted.lots;
      executions = c.tables_with-tables.ensures.executions ∙ c.requires.executions;
      passed = c.tables_with-tables.ensures.rows ∙ c.requires.passed;
      ids = c.lists_with-lists.ensures.ids ∙ c.requires.ids;
      plans = c.tables_with-tables.ensures.plans ∙ c.requires.plans;
      legs = c.tables_with-tables.ensures.legs ∙ c.requires.legs;
      quotations = c.tables_with-tables.ensures.quotations ∙ c.requires.quotations;
    }) c.whole_page.ensures
