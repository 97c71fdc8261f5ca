-- What the texts that make the tables and the indexes are.
use Rattle.statements.proofs.Outside.{false, List, [], ◌∷◌, map, refl, AllZip, Statement, first, everything, Table}
use Rattle.sqlite_ast.specs.declared.CreateTable.{CreateTable}
use Rattle.sqlite_ast.specs.declared.CreateIndex.{CreateIndex}
use Rattle.sqlite_ast.specs.declared.Statement.TheVariants as written
use Rattle.statements.specs.declared.making.TheConstants.{TABLE_TEXTS, FIRST, SECOND, THIRD, MAKE_META, MAKE_ORG, MAKE_TOKEN, MAKE_WS, MAKE_VERSION, MAKE_RUN, MAKE_PAGE, MAKE_VPAGE, MAKE_BOUND, MAKE_EDITION, MAKE_KEEPING, MAKE_RUN_INDEX, MAKE_VPAGE_INDEX}
use Rattle.statements.specs.Schema.{meta_table, org_table, token_table, ws_table, version_table, run_table, page_table, vpage_table, bound_table, edition_table, retention_table}
use Rattle.statements.specs.Tables.{our_tables}
use Rattle.statements.specs.Inner.Making.{IsTableText, IsDefinedBy, IsIndexText, IsMaker}
use Rattle.statements.proofs.Meaning.{some_parsed}

-- the definition that a text has
abbrev table_text : Statement → CreateTable
table_text (written.CreateTable def) = def
table_text _ = record { if_missing = false; name = []; body = record { columns = []; rules = [] }; is_strict = false; resolves = false }

abbrev index_text : Statement → CreateIndex
index_text (written.CreateIndex def) = def
index_text _ = record { is_unique = false; if_missing = false; name = []; table = []; columns = [] }

make_meta : IsTableText MAKE_META.now meta_table
unfolding everything
make_meta = record { def = table_text (some_parsed (first MAKE_META.now)).statement; parsed = some_parsed (first MAKE_META.now); reads = refl; whole = refl; defines = refl }

make_org : IsTableText MAKE_ORG.now org_table
unfolding everything
make_org = record { def = table_text (some_parsed (first MAKE_ORG.now)).statement; parsed = some_parsed (first MAKE_ORG.now); reads = refl; whole = refl; defines = refl }

make_token : IsTableText MAKE_TOKEN.now token_table
unfolding everything
make_token = record { def = table_text (some_parsed (first MAKE_TOKEN.now)).statement; parsed = some_parsed (first MAKE_TOKEN.now); reads = refl; whole = refl; defines = refl }

make_ws : IsTableText MAKE_WS.now ws_table
unfolding everything
make_ws = record { def = table_text (some_parsed (first MAKE_WS.now)).statement; parsed = some_parsed (first MAKE_WS.now); reads = refl; whole = refl; defines = refl }

make_tables_of : IsTableText MAKE_VERSION.now version_table
unfolding everything
make_tables_of = record { def = table_text (some_parsed (first MAKE_VERSION.now)).statement; parsed = some_parsed (first MAKE_VERSION.now); reads = refl; whole = refl; defines = refl }

make_run : IsTableText MAKE_RUN.now run_table
unfolding everything
make_run = record { def = table_text (some_parsed (first MAKE_RUN.now)).statement; parsed = some_parsed (first MAKE_RUN.now); reads = refl; whole = refl; defines = refl }

make_page : IsTableText MAKE_PAGE.now page_table
unfolding everything
make_page = record { def = table_text (some_parsed (first MAKE_PAGE.now)).statement; parsed = some_parsed (first MAKE_PAGE.now); reads = refl; whole = refl; defines = refl }

make_vpage : IsTableText MAKE_VPAGE.now vpage_table
unfolding everything
make_vpage = record { def = table_text (some_parsed (first MAKE_VPAGE.now)).statement; parsed = some_parsed (first MAKE_VPAGE.now); reads = refl; whole = refl; defines = refl }

make_bound : IsTableText MAKE_BOUND.now bound_table
unfolding everything
make_bound = record { def = table_text (some_parsed (first MAKE_BOUND.now)).statement; parsed = some_parsed (first MAKE_BOUND.now); reads = refl; whole = refl; defines = refl }

make_edition : IsTableText MAKE_EDITION.now edition_table
unfolding everything
make_edition = record { def = table_text (some_parsed (first MAKE_EDITION.now)).statement; parsed = some_parsed (first MAKE_EDITION.now); reads = refl; whole = refl; defines = refl }

make_keeping : IsTableText MAKE_KEEPING.now retention_table
unfolding everything
make_keeping = record { def = table_text (some_parsed (first MAKE_KEEPING.now)).statement; parsed = some_parsed (first MAKE_KEEPING.now); reads = refl; whole = refl; defines = refl }

make_run_index : IsIndexText MAKE_RUN_INDEX.now
unfolding everything
make_run_index = record { def = index_text (some_parsed (first MAKE_RUN_INDEX.now)).statement; parsed = some_parsed (first MAKE_RUN_INDEX.now); reads = refl; whole = refl }

make_vpage_index : IsIndexText MAKE_VPAGE_INDEX.now
unfolding everything
make_vpage_index = record { def = index_text (some_parsed (first MAKE_VPAGE_INDEX.now)).statement; parsed = some_parsed (first MAKE_VPAGE_INDEX.now); reads = refl; whole = refl }

-- what the texts of each schema make, one after another

abbrev pub first_made : List (List Table)
first_made = (meta_table ∷ []) ∷ (org_table ∷ []) ∷ (token_table ∷ []) ∷ (ws_table ∷ []) ∷ (version_table ∷ []) ∷ (run_table ∷ []) ∷ [] ∷ (page_table ∷ []) ∷ (vpage_table ∷ []) ∷ [] ∷ []

pub first_are : AllZip IsMaker (map (λ x. x.now) FIRST.now) first_made
first_are = (make_meta, (make_org, (make_token, (make_ws, (make_tables_of, (make_run, (make_run_index, (make_page, (make_vpage, (make_vpage_index, tt))))))))))

abbrev pub second_made : List (List Table)
second_made = (bound_table ∷ []) ∷ (edition_table ∷ []) ∷ []

pub second_are : AllZip IsMaker (map (λ x. x.now) SECOND.now) second_made
second_are = (make_bound, (make_edition, tt))

abbrev pub third_made : List (List Table)
third_made = (retention_table ∷ []) ∷ []

pub third_are : AllZip IsMaker (map (λ x. x.now) THIRD.now) third_made
third_are = (make_keeping, tt)

-- the texts define our tables
pub tables_defined : AllZip IsDefinedBy (map (λ x. x.now) TABLE_TEXTS.now) our_tables
tables_defined = (make_meta.defines, (make_org.defines, (make_token.defines, (make_ws.defines, (make_tables_of.defines, (make_run.defines, (make_page.defines, (make_vpage.defines, (make_bound.defines, (make_edition.defines, (make_keeping.defines, tt)))))))))))
