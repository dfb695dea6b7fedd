mod Syntax
