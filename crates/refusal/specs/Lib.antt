pub mod Numbers
pub mod Due
pub mod Printed
