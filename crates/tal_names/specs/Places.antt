-- Where the parts of a text begin, and which parts are one factor or one name alone.
use Rattle.std.specs.Prelude.{List, [], ◌∷◌, Option, Some, None, option_map}
use Rattle.std.specs.Option.{option_and_then}
use Rattle.tal_syntax.specs.tal_tokens.specs.declared.token.At.{At}
use Rattle.tal_syntax.specs.Grammar as g
use Rattle.tal_names.specs.declared.scope.Named.{Named}

-- the first token of a part
abbrev pub first_of_spot : g.Spot → At
first_of_spot (g.spot at name i) = at

abbrev pub first_of_factor : g.Factor → At
first_of_factor (g.minus at f) = at
first_of_factor (g.number at n) = at
first_of_factor (g.read s) = first_of_spot s
first_of_factor (g.parens start e close) = start

abbrev pub first_of_product : g.Product → At
first_of_product (g.product f fs) = first_of_factor f

abbrev pub first_of_sum : g.Sum → At
first_of_sum (g.sum p ts) = first_of_product p

abbrev pub first_of_neg : g.Neg → At
first_of_neg (g.negated at n) = at
first_of_neg (g.relation s c) = first_of_sum s

abbrev pub first_of_both : g.Both → At
first_of_both (g.both n ns) = first_of_neg n

abbrev pub first_of_expr : g.Expr → At
first_of_expr (g.expr b os) = first_of_both b

abbrev pub first_of_argument : g.Argument → At
first_of_argument (g.value e) = first_of_expr e
first_of_argument (g.receive at) = at
first_of_argument (g.process at name) = at
first_of_argument (g.quoted at) = at

-- the factor that an expression is alone, without any operator
abbrev pub factor_of_product : g.Product → Option g.Factor
factor_of_product (g.product f g.no_factors) = Some f
factor_of_product (g.product f (g.more_factors sign x fs)) = None

abbrev pub factor_of_sum : g.Sum → Option g.Factor
factor_of_sum (g.sum p g.no_terms) = factor_of_product p
factor_of_sum (g.sum p (g.more_terms sign x ts)) = None

abbrev pub factor_of_neg : g.Neg → Option g.Factor
factor_of_neg (g.negated at n) = None
factor_of_neg (g.relation s g.alone) = factor_of_sum s
factor_of_neg (g.relation s (g.compared r t)) = None

abbrev pub factor_of_both : g.Both → Option g.Factor
factor_of_both (g.both n g.no_ands) = factor_of_neg n
factor_of_both (g.both n (g.more_ands at x ns)) = None

abbrev pub factor_of_expr : g.Expr → Option g.Factor
factor_of_expr (g.expr b g.no_ors) = factor_of_both b
factor_of_expr (g.expr b (g.more_ors at x os)) = None

-- the name that a factor is alone
abbrev pub name_of_factor : g.Factor → Option Named
name_of_factor (g.read (g.spot at name g.no_index)) = Some (record { at = at; name = name })
name_of_factor (g.read (g.spot at name (g.index start e close))) = None
name_of_factor (g.minus at f) = None
name_of_factor (g.number at n) = None
name_of_factor (g.parens start e close) = None

-- the name that an expression or an argument is alone
abbrev pub name_of_expr : g.Expr → Option Named
name_of_expr e = option_and_then name_of_factor (factor_of_expr e)

abbrev pub name_of_argument : g.Argument → Option Named
name_of_argument (g.value e) = name_of_expr e
name_of_argument (g.receive at) = None
name_of_argument (g.process at name) = None
name_of_argument (g.quoted at) = None

-- the factor with which a part begins, but for a NOT
abbrev pub front_of_product : g.Product → g.Factor
front_of_product (g.product f fs) = f

abbrev pub front_of_sum : g.Sum → g.Factor
front_of_sum (g.sum p ts) = front_of_product p

abbrev pub front_of_neg : g.Neg → Option g.Factor
front_of_neg (g.negated at n) = None
front_of_neg (g.relation s c) = Some (front_of_sum s)

abbrev pub front_of_both : g.Both → Option g.Factor
front_of_both (g.both n ns) = front_of_neg n

abbrev pub front_of_expr : g.Expr → Option g.Factor
front_of_expr (g.expr b os) = front_of_both b

-- the name with which a factor or an argument begins, where its first token is one
abbrev pub front_name_of_factor : g.Factor → Option Named
front_name_of_factor (g.read (g.spot at name i)) = Some (record { at = at; name = name })
front_name_of_factor (g.minus at f) = None
front_name_of_factor (g.number at n) = None
front_name_of_factor (g.parens start e close) = None

abbrev pub front_name_of_argument : g.Argument → Option Named
front_name_of_argument (g.value e) = option_and_then front_name_of_factor (front_of_expr e)
front_name_of_argument (g.receive at) = None
front_name_of_argument (g.process at name) = None
front_name_of_argument (g.quoted at) = None

-- a number or a name
abbrev pub atom_of_factor : g.Factor → Option g.Atom
atom_of_factor (g.number at n) = Some (g.digits at n)
atom_of_factor (g.read (g.spot at name g.no_index)) = Some (g.known at name)
atom_of_factor (g.read (g.spot at name (g.index start e close))) = None
atom_of_factor (g.minus at f) = None
atom_of_factor (g.parens start e close) = None

-- the constant that an expression is by its form: a number or a name, with or without a `-`
abbrev pub constant_of_factor : g.Factor → Option g.Constant
constant_of_factor (g.minus at f) = option_map (g.negative at) (atom_of_factor f)
constant_of_factor f = option_map g.positive (atom_of_factor f)

abbrev pub constant_of_expr : g.Expr → Option g.Constant
constant_of_expr e = option_and_then constant_of_factor (factor_of_expr e)

abbrev pub constant_of : g.Argument → Option g.Constant
constant_of (g.value e) = constant_of_expr e
constant_of (g.receive at) = None
constant_of (g.process at name) = None
constant_of (g.quoted at) = None

-- the arguments of a call, in order
abbrev pub further_arguments : g.Further → List g.Argument
further_arguments g.no_further = []
further_arguments (g.more_further comma a rest) = a ∷ further_arguments rest

abbrev pub arguments_of : g.Arguments → List g.Argument
arguments_of g.unlisted = []
arguments_of (g.listed start first more close) = first ∷ further_arguments more
