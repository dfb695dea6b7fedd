-- The grammar of program texts as data: a type for each of its rules, written above the type. `of_x x ks` are the
-- tokens of the part x with the tokens ks after them.
pub mod Declarations
pub mod Expressions
pub mod Statements
pub mod Texts
pub use Declarations.{Atom, digits, known, of_atom, Constant, positive, negative, of_constant, Bounds, unbounded}
pub use Declarations.{bounded, of_bounds}
pub use Declarations.{Item, item, of_item, Items, no_items, more_items, of_items, Literal, literal, of_literal}
pub use Declarations.{Literals, no_literals}
pub use Declarations.{more_literals, of_literals, Globals, int_line, literal_line, of_globals, Lines, no_lines}
pub use Declarations.{more_lines, of_lines, Names, no_names}
pub use Declarations.{more_names, of_names, Parameters, no_parameters, parameters, of_parameters, Local, local}
pub use Declarations.{of_local, Locals, no_locals, more_locals}
pub use Declarations.{of_locals, Gives, gives_nothing, gives_int, of_gives, Main, not_main, is_main, of_main, Heading}
pub use Declarations.{heading, of_heading}
pub use Expressions.{Rel, equal, differs, less, at_most, greater, at_least, of_rel, Sign, plus, dash, of_sign}
pub use Expressions.{Scale, times, over, of_scale, Expr, expr, Ors, no_ors, more_ors, Both, both, Ands}
pub use Expressions.{no_ands, more_ands, Neg, negated, relation, Compared, alone, compared, Sum, sum, Terms, no_terms}
pub use Expressions.{more_terms, Product, product, Factors, no_factors, more_factors, Factor, minus, number, read}
pub use Expressions.{parens, Spot}
pub use Expressions.{spot, Index, no_index, index, of_expr, of_ors, of_both, of_ands, of_neg, of_compared, of_sum}
pub use Expressions.{of_terms}
pub use Expressions.{of_product, of_factors, of_factor, of_spot, of_index}
pub use Statements.{Argument, value, receive, process, quoted, of_argument, Further, no_further, more_further}
pub use Statements.{of_further, Arguments, unlisted}
pub use Statements.{listed, of_arguments, Values, no_values, more_values, of_values, Answer, no_answer, answer}
pub use Statements.{of_answer, Statement, nothing}
pub use Statements.{Direction, up, down, of_direction, Step, step_one, step_by, of_step}
pub use Statements.{block, if_then, while_do, for_do, do_until, call, return, assign, assign_call, Otherwise, no_else}
pub use Statements.{otherwise}
pub use Statements.{Row}
pub use Statements.{no_row, more_row, of_statement, of_otherwise, of_row, is_open, is_open_else, IsNearest}
pub use Statements.{IsNearestElse, IsNearestRow}
pub use Texts.{Procedure, procedure, of_procedure, Procedures, no_procedures, more_procedures, of_procedures, Text}
pub use Texts.{text, of_text, IsNearestProcedure, IsNearestIn}
pub use Texts.{IsText}
