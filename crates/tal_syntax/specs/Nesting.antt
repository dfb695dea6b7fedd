-- How deep each token of a part stands. `nest_x n x ls` are the levels of the tokens of the part x, which stands within
-- n levels, before the levels ls of what follows. A parenthesis, a unary minus, a NOT, an index and a statement open
-- one each.
pub mod Declarations
pub mod Expressions
pub mod Statements
pub mod Texts
pub use Declarations.{nest_atom, nest_constant, nest_bounds, nest_item, nest_items, nest_literal, nest_literals}
pub use Declarations.{nest_globals, nest_lines, nest_names, nest_parameters, nest_local}
pub use Declarations.{nest_locals, nest_gives, nest_main, nest_heading}
pub use Expressions.{nest_expr, nest_ors, nest_both, nest_ands, nest_neg, nest_compared, nest_sum, nest_terms}
pub use Expressions.{nest_product, nest_factors, nest_factor, nest_spot}
pub use Expressions.{nest_index}
pub use Statements.{nest_argument, nest_further, nest_arguments, nest_values, nest_answer, nest_statement}
pub use Statements.{nest_step, nest_otherwise, nest_row}
pub use Texts.{nest_procedure, nest_procedures, nest_text}
